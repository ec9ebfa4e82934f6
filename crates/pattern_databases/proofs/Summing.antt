-- The sum of the bytes at a goal place, and the least of these sums, as loops take them. Assumes nothing.
use Rattle.std.proofs.Common.{◌≡◌, ℕ, suc, ◌+◌, ◌-◌, ◌*◌, ◌<◌, ◌≤◌, eqb, cond, Bool, true, false, List, [], ◌∷◌, ◌++◌, map, length, get_or, drop, Some, None, Option, option_map, unwrap_or, slice_range, IfSome, min, sym, refl, ap, ◌∙◌, arith, zero-add, add-zero, add_assoc}
use Rattle.std.specs.List.{range_with_len, All}
use Rattle.std.proofs.lemmas.Bool.{eq-eqb, ne_eqb, eqb-false}
use Rattle.std.proofs.lemmas.List.{at_drop_more, at_drop_all, get_or-take, get_or-drop}
use Rattle.std.proofs.lemmas.List.Elements.{All-head, All-tail}
use Rattle.std.proofs.lemmas.List.FromFn.{map-range_with_len_more}
use Rattle.atoms.specs.Level.{Atoms}
use Rattle.pattern_databases.specs.Layout.{place_length}
use Rattle.pattern_databases.specs.Meaning.{with_byte, sum_of, lesser, least_of}
use Rattle.pattern_databases.specs.inside.Bounds.{AtLeast, Inside, sum_at}

-- so much more
abbrev pub plus : ℕ → Option ℕ → Option ℕ
plus n sum = option_map (λ m. n + m) sum

plus_none : (o : Option ℕ) → plus 0 o ≡ o
plus_none (Some n) = ap Some (zero-add n)
plus_none None = refl

-- with a byte that is not 255
plus_byte : (n b : ℕ) (o : Option ℕ) → (b ≡ 255 → ⊥) → plus n (with_byte b o) ≡ plus (n + b) o
plus_byte n b o below = ap (λ s. plus n (cond s None (plus b o))) (ne_eqb b 255 below) ∙ by o
  where
    by : (o : Option ℕ) → plus n (plus b o) ≡ plus (n + b) o
    by (Some m) = ap Some (sym (add_assoc n b m))
    by None = refl

-- with 255 there is none
plus_never : (n b : ℕ) (o : Option ℕ) → b ≡ 255 → plus n (with_byte b o) ≡ None
plus_never n b o is = ap (λ s. plus n (cond s None (plus b o))) (eq-eqb b 255 is)

plus_at_least : (n limit : ℕ) (o : Option ℕ) → limit ≤ n → AtLeast limit (plus n o)
plus_at_least n limit (Some m) past = omega arith
plus_at_least n limit None past = tt

module _ (byte : ℕ → ℕ) (entries : List ℕ) where
  abbrev whole : Option ℕ
  whole = sum_of (map byte entries)

  -- the first i bytes sum up to this, and the whole is that and the rest
  abbrev pub Summed : ℕ → ℕ → Type 0
  Summed i sum = plus sum (sum_of (map byte (drop i entries))) ≡ whole

  pub summed_none : Summed 0 0
  summed_none = plus_none whole

  module _ (i sum : ℕ) (summed : Summed i sum) where
    first_is : (d : ℕ) → i < length entries → sum_of (map byte (drop i entries)) ≡ with_byte (byte (get_or entries i d)) (sum_of (map byte (drop (i + 1) entries)))
    first_is d there = at_drop_more (λ es. sum_of (map byte es)) entries i d there

    pub summed_more : i < length entries → (byte (get_or entries i 0) ≡ 255 → ⊥) → Summed (i + 1) (sum + byte (get_or entries i 0))
    summed_more there below = sym (plus_byte sum _ _ below) ∙ sym (ap (plus sum) (first_is 0 there)) ∙ summed

    -- a byte of 255 leaves none
    pub summed_never : i < length entries → byte (get_or entries i 0) ≡ 255 → whole ≡ None
    summed_never there never = sym summed ∙ ap (plus sum) (first_is 0 there) ∙ plus_never sum _ _ never

    -- what is past a limit stays past it
    pub summed_past : (limit : ℕ) → limit ≤ sum → AtLeast limit whole
    summed_past limit past = rw (← summed) (plus_at_least sum limit _ past)

    pub summed_all : length entries ≤ i → whole ≡ Some sum
    summed_all all = sym summed ∙ ap (plus sum) (at_drop_all (λ es. sum_of (map byte es)) entries i all) ∙ ap Some (add-zero sum)

-- sixteen bytes sum up to little
few : (byte : ℕ → ℕ) → ((e : ℕ) → byte e ≤ 255) → (entries : List ℕ) (s : ℕ) → sum_of (map byte entries) ≡ Some s → s ≤ 254 * length entries
few byte low [] s is = let same : 0 ≡ s = cc in omega arith
few byte low (e ∷ es) s is = by (eqb (byte e) 255) (sum_of (map byte es)) refl (few byte low es) is
  where
    by : (b : Bool) (o : Option ℕ) → eqb (byte e) 255 ≡ b → ((r : ℕ) → o ≡ Some r → r ≤ 254 * length es)
        → cond b None (plus (byte e) o) ≡ Some s → s ≤ 254 * suc (length es)
    by true o never rest is = absurd (cc)
    by false (Some r) below rest is =
        let same : byte e + r ≡ s = cc in
        let under = eqb-false (byte e) 255 below in
        let most = rest r refl in
        let one = low e in
        omega arith
    by false None below rest is = absurd (cc)

pub sum_small : (byte : ℕ → ℕ) (entries : List ℕ) → ((e : ℕ) → byte e ≤ 255) → length entries ≤ 16
    → IfSome (sum_of (map byte entries)) (λ s. s < 65535)
sum_small byte entries low short = by (sum_of (map byte entries)) (few byte low entries)
  where
    by : (o : Option ℕ) → ((s : ℕ) → o ≡ Some s → s ≤ 254 * length entries) → IfSome o (λ s. s < 65535)
    by (Some s) most = omega (arith, most s refl)
    by None most = tt

-- what is the same for each entry
map_same : (f g : ℕ → ℕ) (xs : List ℕ) → All (λ x. f x ≡ g x) xs → map f xs ≡ map g xs
map_same f g [] same = refl
map_same f g (x ∷ xs) same =
    ap (λ y. y ∷ map f xs) (All-head (λ y. f y ≡ g y) x xs same)
    ∙ ap (λ ys. g x ∷ ys) (map_same f g xs (All-tail (λ y. f y ≡ g y) x xs same))

-- the sum of the same bytes, read from those of one place and from all of them
sum_there : (bytes : List ℕ) (start len : ℕ) (entries : List ℕ) → All (λ e. e < len) entries
    → sum_of (map (λ e. get_or (slice_range bytes start (start + len)) e 0) entries) ≡ sum_of (map (λ e. get_or bytes (start + e) 0) entries)
sum_there bytes start len entries inside =
    let n = start + len - start in
    let few : n ≡ len = omega arith in
    ap sum_of (map_same _ _ entries (λ k d h.
    let e = get_or entries k d in
    let below : e < n = omega (arith, inside k d h) in
    get_or-take n (drop start bytes) e 0 below ∙ get_or-drop start bytes e 0))

pub sum_at_place : (l : Atoms) (bytes : List ℕ) (place len : ℕ) (entries : List ℕ) → len ≡ place_length l → Inside l entries
    → sum_of (map (λ e. get_or (slice_range bytes (place * len) (place * len + len)) e 0) entries) ≡ sum_at l bytes entries place
sum_at_place l bytes place len entries is inside =
    ap (λ n. sum_of (map (λ e. get_or (slice_range bytes (place * n) (place * n + n)) e 0) entries)) is
    ∙ sum_there bytes (place * place_length l) (place_length l) entries inside

-- The least of the sums.

lesser_assoc : (a b c : Option ℕ) → lesser a (lesser b c) ≡ lesser (lesser a b) c
lesser_assoc (Some a) (Some b) (Some c) = let e : min a (min b c) ≡ min (min a b) c = omega arith in ap Some e
lesser_assoc (Some a) (Some b) None = refl
lesser_assoc (Some a) None c = refl
lesser_assoc None b c = refl

lesser_none : (o : Option ℕ) → lesser o None ≡ o
lesser_none (Some n) = refl
lesser_none None = refl

-- one sum more
least_push : (os : List (Option ℕ)) (o : Option ℕ) → least_of (os ++ o ∷ []) ≡ lesser (least_of os) o
least_push [] o = lesser_none o
least_push (p ∷ os) o = ap (lesser p) (least_push os o) ∙ lesser_assoc p (least_of os) o

module _ (sum_at : ℕ → Option ℕ) where
  -- the least at the first n goal places
  abbrev pub least_before : ℕ → Option ℕ
  least_before n = least_of (map sum_at (range_with_len 0 n))

  least_more : (n : ℕ) → least_before (n + 1) ≡ lesser (least_before n) (sum_at n)
  least_more n = ap least_of (map-range_with_len_more sum_at 0 n n (omega arith)) ∙ least_push (map sum_at (range_with_len 0 n)) (sum_at n)

  -- a sum below the least so far is the least
  pub least_less : (n less limit : ℕ) (least : Option ℕ) → least ≡ least_before n → limit ≡ unwrap_or least 65535
      → sum_at n ≡ Some less → less < limit → Some less ≡ least_before (n + 1)
  least_less n less limit least is limited sum below = by least limited ∙ ap (λ o. lesser o (Some less)) is ∙ ap (lesser (least_before n)) (sym sum) ∙ sym (least_more n)
    where
      by : (least : Option ℕ) → limit ≡ unwrap_or least 65535 → Some less ≡ lesser least (Some less)
      by (Some m) limited = let e : less ≡ min m less = omega arith in ap Some e
      by None limited = refl

  -- and one that is not below it leaves it
  pub least_stays : (n limit : ℕ) (least : Option ℕ) → least ≡ least_before n → limit ≡ unwrap_or least 65535
      → IfSome (sum_at n) (λ s. s < 65535) → AtLeast limit (sum_at n) → least ≡ least_before (n + 1)
  least_stays n limit least is limited few past = by least (sum_at n) limited few past ∙ ap (λ o. lesser o (sum_at n)) is ∙ sym (least_more n)
    where
      by : (least sum : Option ℕ) → limit ≡ unwrap_or least 65535 → IfSome sum (λ s. s < 65535) → AtLeast limit sum → least ≡ lesser least sum
      by (Some m) (Some s) limited few past = let e : m ≡ min m s = omega arith in ap Some e
      by (Some m) None limited few past = refl
      by None (Some s) limited few past = absurd (omega arith)
      by None None limited few past = refl
