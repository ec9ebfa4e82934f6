-- Breadth first from goals on, over numbers: what is known while they are reached one by one, and at the end.
-- Assumes nothing.
use Rattle.std.proofs.Common.{◌≡◌, ℕ, ◌+◌, ◌<◌, ◌≤◌, ◌≢◌, not, cond, min, List, length, get_or, set, refl, sym, ap, ◌∙◌, subst, ⊎_elim, arith, length-set, get_or-set_same, get_or-set_other}
use Rattle.std.specs.List.{count_by}
use Rattle.std.proofs.lemmas.List.Sums.{sum_by-set, count_by-le-length}
use Rattle.std.proofs.lemmas.Bool.{cases_eq, cases_lt, eq-eqb, ne_eqb}
use Rattle.pattern_databases.specs.inside.Filling.{Front, entry_in, queued, is_reached, HasRoom, after_reach, IsFresh, Steps, Searched}
use Rattle.pattern_databases.specs.inside.Filling.Steps.{here, then}

-- The queue has room.

-- how much a byte counts among those of placements that are reached
abbrev counts : ℕ → ℕ
counts byte = cond (is_reached byte) 1 0

counts_open : (byte : ℕ) → byte ≡ 255 → counts byte ≡ 0
counts_open byte is = ap (λ t. cond (not t) 1 0) (eq-eqb byte 255 is)

counts_reached : (byte : ℕ) → byte ≢ 255 → counts byte ≡ 1
counts_reached byte other = ap (λ t. cond (not t) 1 0) (ne_eqb byte 255 other)

-- one byte more is reached
counted_more : (bytes : List ℕ) (n moves : ℕ) → n < length bytes → get_or bytes n 0 ≡ 255 → moves ≢ 255
    → count_by is_reached (set bytes n moves) ≡ count_by is_reached bytes + 1
counted_more bytes n moves there new small =
    omega (arith, sum_by-set counts bytes n moves 0 there, counts_open _ new, counts_reached moves small)

-- where a byte is none of a reached placement, not all are reached
pub queue_has_room : (f : Front) (n : ℕ) → HasRoom f → n < length f.entries → entry_in f n ≡ 255
    → f.reached < length f.queue
queue_has_room f n room there new =
    let more = counted_more f.entries n 0 there new (λ e. omega arith) in
    let most = count_by-le-length is_reached (set f.entries n 0) in
    omega (arith, more, most, length-set f.entries n 0, room.room, room.counted)

-- One placement is reached.

abbrev with_reached : Front → ℕ → ℕ → Front
with_reached f n moves =
    record { entries = set f.entries n moves; queue = set f.queue f.reached n; reached = f.reached + 1 }

-- one that was reached before stays as it is
after_known : (f : Front) (n moves : ℕ) → entry_in f n ≢ 255 → after_reach n moves f ≡ f
after_known f n moves other = ap (λ t. cond (not t) f (with_reached f n moves)) (ne_eqb (entry_in f n) 255 other)

-- one that was not is put into the queue

after_new : (f : Front) (n moves : ℕ) → entry_in f n ≡ 255 → after_reach n moves f ≡ with_reached f n moves
after_new f n moves new = ap (λ t. cond (not t) f (with_reached f n moves)) (eq-eqb (entry_in f n) 255 new)

-- what holds after a placement is reached, where it was reached before and where it was not
after_either : (P : Front → Type 0) (f : Front) (n moves : ℕ) → (entry_in f n ≢ 255 → P f)
    → (entry_in f n ≡ 255 → P (with_reached f n moves)) → P (after_reach n moves f)
after_either P f n moves known new =
    ⊎_elim
    (λ (is : entry_in f n ≡ 255). subst P (sym (after_new f n moves is)) (new is))
    (λ (other : entry_in f n ≢ 255). subst P (sym (after_known f n moves other)) (known other))
    (cases_eq (entry_in f n) 255)

module _ (f : Front) (n moves : ℕ) (there : n < length f.entries) (small : moves ≢ 255) where
  -- it is reached then
  pub reached_here : entry_in (after_reach n moves f) n ≢ 255
  reached_here =
      after_either (λ g. entry_in g n ≢ 255) f n moves (λ known. known)
      (λ new. λ is. small (sym (get_or-set_same f.entries n moves 0 there) ∙ is))

  -- and those that were stay so
  pub reached_still : (e : ℕ) → entry_in f e ≢ 255 → entry_in (after_reach n moves f) e ≢ 255
  reached_still e before =
      after_either (λ g. entry_in g e ≢ 255) f n moves (λ known. before)
      (λ new. λ is. before (sym (get_or-set_other f.entries n e moves 0 (λ q. before (ap (entry_in f) q ∙ new))) ∙ is))

-- no byte more is there
pub as_long : (f : Front) (n moves : ℕ) → length (after_reach n moves f).entries ≡ length f.entries
as_long f n moves =
    after_either (λ g. length g.entries ≡ length f.entries) f n moves (λ known. refl)
    (λ new. length-set f.entries n moves)

module _ (near : ℕ → ℕ → Type 0) (goal : ℕ → Type 0) where
  -- nothing is reached yet
  pub searched_none : (f : Front) → IsFresh f → Searched near goal f 0 0
  searched_none f fresh = record {
    has_room = fresh.has_room;
    told = λ n there other. absurd (other (fresh.none n there));
    goal_entries = λ n below g. absurd (omega arith);
    in_done = omega arith;
    near_done = λ i n below m. absurd (omega arith);
    all_queued = λ n there other. absurd (other (fresh.none n there));
    in_queue = λ i below. absurd (omega (arith, fresh.empty));
    rising = λ i j le below. absurd (omega (arith, fresh.empty));
    close = λ j below more. absurd (omega (arith, fresh.empty));
  }

  -- a goal more is reached, or the next number is no goal
  goals_more : (f : Front) (n done : ℕ) → Searched near goal f n done → (goal n → entry_in f n ≡ 0)
      → Searched near goal f (n + 1) done
  goals_more f n done s next = record {
    has_room = s.has_room;
    told = s.told;
    goal_entries = λ e below g.
        ⊎_elim
        (λ (is : e ≡ n). ap (entry_in f) is ∙ next (subst goal is g))
        (λ (other : e ≢ n). s.goal_entries e (omega arith) g)
        (cases_eq e n);
    in_done = s.in_done;
    near_done = s.near_done;
    all_queued = s.all_queued;
    in_queue = s.in_queue;
    rising = s.rising;
    close = s.close;
  }

  -- A number that was not reached is: so many moves lead from it to a goal. Those in the queue were reached by no more,
  -- and it is at most one more than those of the first that is not done.
  module _ (f : Front) (goals done n k : ℕ) (s : Searched near goal f goals done) (there : n < length f.entries)
      (new : entry_in f n ≡ 255)
      (steps : Steps near goal n k) (last : (j : ℕ) → j < f.reached → entry_in f (queued f j) ≤ min k 254)
      (next : done < f.reached → min k 254 ≤ min (entry_in f (queued f done) + 1) 254) where
    abbrev g : Front
    g = with_reached f n (min k 254)

    as_many : length g.entries ≡ length f.entries
    as_many = length-set f.entries n (min k 254)

    here_is : entry_in g n ≡ min k 254
    here_is = get_or-set_same f.entries n (min k 254) 0 there

    others_are : (e : ℕ) → e ≢ n → entry_in g e ≡ entry_in f e
    others_are e other = get_or-set_other f.entries n e (min k 254) 0 other

    last_is : queued g f.reached ≡ n
    last_is = get_or-set_same f.queue f.reached n 0 (queue_has_room f n s.has_room there new)

    firsts_are : (i : ℕ) → i < f.reached → queued g i ≡ queued f i
    firsts_are i below = let other : i ≢ f.reached = omega arith in get_or-set_other f.queue f.reached i n 0 other

    -- the bytes of those in the queue
    first_bytes : (i : ℕ) → i < f.reached → entry_in g (queued g i) ≡ entry_in f (queued f i)
    first_bytes i below =
        ap (entry_in g) (firsts_are i below)
        ∙ others_are (queued f i) (λ e. (s.in_queue i below).1 (ap (entry_in f) e ∙ new))

    last_byte : (j : ℕ) → f.reached ≤ j → j < f.reached + 1 → entry_in g (queued g j) ≡ min k 254
    last_byte j over below =
        let is : j ≡ f.reached = omega arith in
        ap (λ i. entry_in g (queued g i)) is ∙ ap (entry_in g) last_is ∙ here_is

    told_then : (e : ℕ) → e < length g.entries → entry_in g e ≢ 255
        → (k : ℕ) × Steps near goal e k × (entry_in g e ≡ min k 254)
    told_then e inside reached =
        ⊎_elim
        (λ (is : e ≡ n). (k, subst (λ m. Steps near goal m k) (sym is) steps, ap (entry_in g) is ∙ here_is))
        (λ (other : e ≢ n).
        let same = others_are e other in
        let was = s.told e (omega (arith, as_many)) (λ q. reached (same ∙ q)) in
        (was.0, was.1, same ∙ was.2))
        (cases_eq e n)

    goal_entries_then : (e : ℕ) → e < goals → goal e → entry_in g e ≡ 0
    goal_entries_then e below is_goal =
        let was = s.goal_entries e below is_goal in
        others_are e (λ is. absurd (omega (arith, was, ap (entry_in f) is, new))) ∙ was

    near_done_then : (i e : ℕ) → i < done → near e (queued g i) → entry_in g e ≤ min (entry_in g (queued g i) + 1) 254
    near_done_then i e below m =
        let in_queue : i < f.reached = omega (arith, s.in_done) in
        let was = s.near_done i e below (subst (near e) (firsts_are i in_queue) m) in
        let same = others_are e (λ is. absurd (omega (arith, was, ap (entry_in f) is, new))) in
        omega (arith, was, same, first_bytes i in_queue)

    all_queued_then : (e : ℕ) → e < length g.entries → entry_in g e ≢ 255
        → (i : ℕ) × (i < f.reached + 1) × (queued g i ≡ e)
    all_queued_then e inside reached =
        ⊎_elim
        (λ (is : e ≡ n). (f.reached, omega arith, last_is ∙ sym is))
        (λ (other : e ≢ n).
        let was = s.all_queued e (omega (arith, as_many)) (λ q. reached (others_are e other ∙ q)) in
        (was.0, omega (arith, was.1), firsts_are was.0 was.1 ∙ was.2))
        (cases_eq e n)

    in_queue_then : (i : ℕ) → i < f.reached + 1 → (queued g i < length g.entries) × (entry_in g (queued g i) ≢ 255)
    in_queue_then i below =
        ⊎_elim
        (λ (first : i < f.reached).
        let was = s.in_queue i first in
        (omega (arith, was.0, firsts_are i first, as_many), λ q. was.1 (sym (first_bytes i first) ∙ q)))
        (λ (over : f.reached ≤ i).
        let is : queued g i ≡ n = (let e : i ≡ f.reached = omega arith in ap (queued g) e ∙ last_is) in
        (omega (arith, is, there, as_many), λ q. absurd (omega (arith, q, last_byte i over below))))
        (cases_lt i f.reached)

    rising_then : (i j : ℕ) → i ≤ j → j < f.reached + 1 → entry_in g (queued g i) ≤ entry_in g (queued g j)
    rising_then i j le below =
        ⊎_elim
        (λ (first : j < f.reached).
        omega (arith, s.rising i j le first, first_bytes i (omega arith), first_bytes j first))
        (λ (over : f.reached ≤ j).
        ⊎_elim
        (λ (first : i < f.reached). omega (arith, last i first, first_bytes i first, last_byte j over below))
        (λ (both : f.reached ≤ i). omega (arith, last_byte i both (omega arith), last_byte j over below))
        (cases_lt i f.reached))
        (cases_lt j f.reached)

    -- none in the queue was reached by more moves
    up_to_last : (j : ℕ) → j < f.reached + 1 → entry_in g (queued g j) ≤ min k 254
    up_to_last j below =
        ⊎_elim
        (λ (first : j < f.reached). omega (arith, last j first, first_bytes j first))
        (λ (over : f.reached ≤ j). omega (arith, last_byte j over below))
        (cases_lt j f.reached)

    close_then : (j : ℕ) → j < f.reached + 1 → done < f.reached + 1
        → entry_in g (queued g j) ≤ min (entry_in g (queued g done) + 1) 254
    close_then j below more =
        ⊎_elim
        (λ (first : done < f.reached). omega (arith, up_to_last j below, next first, first_bytes done first))
        (λ (over : f.reached ≤ done). omega (arith, up_to_last j below, last_byte done over more))
        (cases_lt done f.reached)

    searched_more : Searched near goal g goals done
    searched_more = record {
      has_room = record {
        small = omega (arith, s.has_room.small, as_many);
        room = omega (arith, s.has_room.room, as_many, length-set f.queue f.reached n);
        counted =
            omega (arith, s.has_room.counted, counted_more f.entries n (min k 254) there new (λ q. omega arith));
      };
      told = told_then;
      goal_entries = goal_entries_then;
      in_done = omega (arith, s.in_done);
      near_done = near_done_then;
      all_queued = all_queued_then;
      in_queue = in_queue_then;
      rising = rising_then;
      close = close_then;
    }

  -- The goals are reached.

  -- the goals below a number, and nothing else
  pub record Collecting (f : Front) (upto : ℕ) : Type 0 where
    pub searched : Searched near goal f upto 0
    pub flat : (j : ℕ) → j < f.reached → entry_in f (queued f j) ≡ 0

  pub collected_none : (f : Front) → IsFresh f → Collecting f 0
  collected_none f fresh = record {
    searched = searched_none f fresh;
    flat = λ j below. absurd (omega (arith, fresh.empty));
  }

  -- the next number is no goal
  pub collected_other : (f : Front) (n : ℕ) → (goal n → ⊥) → Collecting f n → Collecting f (n + 1)
  collected_other f n no_goal c = record {
    searched = goals_more f n 0 c.searched (λ is_goal. absurd (no_goal is_goal));
    flat = c.flat;
  }

  -- or it is one, and is reached
  pub collected_goal : (f : Front) (n : ℕ) → goal n → n < length f.entries → Collecting f n
      → Collecting (after_reach n 0 f) (n + 1)
  collected_goal f n is_goal there c = after_either (λ g. Collecting g (n + 1)) f n 0 known new
    where
      known : entry_in f n ≢ 255 → Collecting f (n + 1)
      known reached =
          let at = c.searched.all_queued n there reached in
          record {
            searched = goals_more f n 0 c.searched (λ _. sym (ap (entry_in f) at.2) ∙ c.flat at.0 at.1);
            flat = c.flat;
          }

      none_more : (j : ℕ) → j < f.reached → entry_in f (queued f j) ≤ min 0 254
      none_more j below = omega (arith, c.flat j below)

      new : entry_in f n ≡ 255 → Collecting (with_reached f n 0) (n + 1)
      new is =
          let next : 0 < f.reached → min 0 254 ≤ min (entry_in f (queued f 0) + 1) 254 = λ some. omega arith in
          let searched = searched_more f n 0 n 0 c.searched there is (here is_goal) none_more next in
          let most = up_to_last f n 0 n 0 c.searched there is (here is_goal) none_more next in
          record {
            searched = goals_more (with_reached f n 0) n 0 searched (λ _. get_or-set_same f.entries n 0 0 there);
            flat = λ j below. omega (arith, most j below);
          }

  -- Those are reached from which a move leads to a number that was taken.

  pub record Spreading (f : Front) (done n moves : ℕ) : Type 0 where
    pub searched : Searched near goal f (length f.entries) done
    pub more : done < f.reached
    pub number : queued f done ≡ n
    pub moves_are : moves ≡ min (entry_in f n + 1) 254

  module _ (f : Front) (done n moves : ℕ) (s : Spreading f done n moves) where
    -- the number itself is reached
    pub taken_reached : (n < length f.entries) × (entry_in f n ≢ 255)
    taken_reached =
        let known = s.searched.in_queue done s.more in
        (omega (arith, known.0, s.number), λ q. known.1 (ap (entry_in f) s.number ∙ q))

    -- one of them is reached
    pub spreads : (e : ℕ) → near e n → e < length f.entries → Spreading (after_reach e moves f) done n moves
    spreads e m there = after_either (λ g. Spreading g done n moves) f e moves (λ known. s) new
      where
        told : (k : ℕ) × Steps near goal n k × (entry_in f n ≡ min k 254)
        told = s.searched.told n taken_reached.0 taken_reached.1

        moves_is : moves ≡ min (told.0 + 1) 254
        moves_is = omega (arith, s.moves_are, told.2)

        at_done : entry_in f (queued f done) ≡ entry_in f n
        at_done = ap (entry_in f) s.number

        next_searched : entry_in f e ≡ 255
            → Searched near goal (with_reached f e (min (told.0 + 1) 254)) (length f.entries) done
        next_searched is =
            searched_more f (length f.entries) done e (told.0 + 1) s.searched there is (then m told.1)
            (λ j below. omega (arith, s.searched.close j below s.more, at_done, s.moves_are, moves_is))
            (λ more. omega (arith, at_done, s.moves_are, moves_is))

        new : entry_in f e ≡ 255 → Spreading (with_reached f e moves) done n moves
        new is =
            let other : n ≢ e = λ q. taken_reached.1 (ap (entry_in f) q ∙ is) in
            let still : done ≢ f.reached = omega (arith, s.more) in
            let by_moves = subst (λ x. Searched near goal (with_reached f e x) (length f.entries) done) (sym moves_is)
            (next_searched is) in
            record {
              searched = subst (λ many. Searched near goal (with_reached f e moves) many done)
                  (sym (length-set f.entries e moves)) by_moves;
              more = omega (arith, s.more);
              number = get_or-set_other f.queue f.reached done e 0 still ∙ s.number;
              moves_are = omega (arith, s.moves_are, get_or-set_other f.entries e n moves 0 other);
            }

    -- at the end all of them are
    pub spread : ((e : ℕ) → near e n → (e < length f.entries) × (entry_in f e ≢ 255))
        → Searched near goal f (length f.entries) (done + 1)
    spread all = record {
      has_room = s.searched.has_room;
      told = s.searched.told;
      goal_entries = s.searched.goal_entries;
      in_done = omega (arith, s.more);
      near_done = λ i e below m.
          ⊎_elim
          (λ (first : i < done). s.searched.near_done i e first m)
          (λ (last : done ≤ i).
          let is : i ≡ done = omega arith in
          let reached = all e (subst (near e) (ap (queued f) is ∙ s.number) m) in
          let at = s.searched.all_queued e reached.0 reached.1 in
          omega (arith, s.searched.close at.0 at.1 s.more, ap (entry_in f) at.2, ap (λ x. entry_in f (queued f x)) is))
          (cases_lt i done);
      all_queued = s.searched.all_queued;
      in_queue = s.searched.in_queue;
      rising = s.searched.rising;
      close = λ j below more.
          omega (arith, s.searched.close j below s.more, s.searched.rising done (done + 1) (omega arith) more);
    }

  -- At the end, where all that are reached are done, no fewer moves lead from a number to a goal than its byte says.
  pub shortest : (f : Front) → Searched near goal f (length f.entries) f.reached
      → ((n : ℕ) → goal n → n < length f.entries)
      → ((n m : ℕ) → near n m → m < length f.entries) → {n k : ℕ} → Steps near goal n k → entry_in f n ≤ min k 254
  shortest f s goal_inside near_inside (here {n} is_goal) =
      omega (arith, s.goal_entries n (goal_inside n is_goal) is_goal)
  shortest f s goal_inside near_inside (then {n} {m} {k} step steps) =
      let after = shortest f s goal_inside near_inside steps in
      let at = s.all_queued m (near_inside n m step) (λ q. omega arith) in
      omega (arith, after, s.near_done at.0 n at.1 (subst (near n) (sym at.2) step), ap (entry_in f) at.2)
