use Rattle.judgement.proofs.Exactly.{judges_exactly, accepts_solutions_of}
use Rattle.judgement.proofs.judge_texts.Goals as goal

pub returns-in_err-read_level-clause-exactly : goal.returns-in_err-read_level-clause-exactly
returns-in_err-read_level-clause-exactly c = judges_exactly c.args.level_text.now c.args.way_text.now

pub returns-in_err-read_level-clause-solves : goal.returns-in_err-read_level-clause-solves
returns-in_err-read_level-clause-solves c = accepts_solutions_of c.args.level_text.now c.args.way_text.now

pub returns-clause-exactly : goal.returns-clause-exactly
returns-clause-exactly c = judges_exactly c.args.level_text.now c.args.way_text.now

pub returns-clause-solves : goal.returns-clause-solves
returns-clause-solves c = accepts_solutions_of c.args.level_text.now c.args.way_text.now
