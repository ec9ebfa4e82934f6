use Rattle.std.proofs.Common.{rules, tests}
use Rattle.std.proofs.lemmas.Iterator.{YieldsList-from_slice}
use Rattle.text.specs.Numbers.{digit, with_digit}
use Rattle.text.proofs.Trying.{total_from_try_fold}
use Rattle.text.proofs.number.read_digits.Goals as goal

pub returns : goal.returns
returns c =
    total_from_try_fold (λ n b. with_digit n (digit b)) _ _ _ _ _ _ _ _ c.try_fold.ensures.ran (YieldsList-from_slice c.args.text.now cc)
    (λ f a x o g k. search (rules, tests))
