use Rattle.std.proofs.Common.{◌≡◌, ◌<◌, ◌++◌, ◌∷◌, [], true, sym, ap, subst, refl, ◌∙◌, arith, length, length-set, length-append, set}
use Rattle.std.proofs.lemmas.Bool.{ltb-true, lt-ltb}
use Rattle.open_list.specs.Entries.{entry}
use Rattle.open_list.specs.OpenList as open_list
use Rattle.hash_index.specs.Index as index
use Rattle.search.specs.Contents.{nodes_of, nodes_from}
use Rattle.search.specs.inside.Memory.{link_of}
use Rattle.search.proofs.Nodes.{nodes_push, length-nodes}
use Rattle.search.proofs.search.Search.store.Goals as goal

pub returns-then-not-push-clause-room : goal.returns-then-not-push-clause-room
unfolding nodes_of
returns-then-not-push-clause-room g c =
    let h = c.self.invariant.fit in
    rw (← c.self.view_is, length-nodes c.self.inside.table.places.now c.self.inside.open_list.entries c.self.inside.index.keys c.self.inside.links.numbers.now h.keyed (omega (arith, h.used, h.deep)) (omega (arith, h.used, h.linked))) (sym c.if-not-push.true ∙ c.push.ensures.room)

pub returns-clause-room : goal.returns-clause-room
unfolding nodes_of
returns-clause-room g c =
    let h = c.self.invariant.fit in
    rw (← c.self.view_is, length-nodes c.self.inside.table.places.now c.self.inside.open_list.entries c.self.inside.index.keys c.self.inside.links.numbers.now h.keyed (omega (arith, h.used, h.deep)) (omega (arith, h.used, h.linked))) (sym c.if-not-push.false ∙ c.push.ensures.room)

pub returns-clause-after : goal.returns-clause-after
unfolding nodes_of
returns-clause-after g c =
    let ps = c.self.inside.table.places.now in
    let es = c.self.inside.open_list.entries in
    let ks = c.self.inside.index.keys in
    let ls = c.self.inside.links.numbers.now in
    let reach = c.args.reach in
    let h = c.self.invariant.fit in
    let e = entry reach.depth c.args.floor true in
    let link = link_of reach.parent reach.number in
    let place : c.len-place.result ≡ length es = c.len-place.ensures in
    let room : length es < c.self.inside.open_list.capacity = ltb-true _ _ (sym c.push.ensures.room ∙ c.if-not-push.false) in
    let pushed = subst (λ b. open_list.Pushes reach.depth c.args.floor c.self.inside.open_list b c.push.new.self) c.if-not-push.false c.push.ensures.after in
    let keyed : c.push-2.result ≡ true = c.push-2.ensures.room ∙ lt-ltb _ _ (omega (arith, h.keyed, h.even)) in
    let key_pushed = subst (λ b. index.Pushes c.args.key c.self.inside.index b c.push-2.new.self) keyed c.push-2.ensures.after in
    let table = c.put.ensures ∙ ap (λ i. set ps i c.args.position) place in
    let links = c.put-2.ensures ∙ ap (λ i. set ls i link) place in
    rw (← c.self.view_is) (
      (
          ap (λ xs. nodes_from xs c.push.new.self.entries c.push-2.new.self.keys c.put-2.new.self.numbers.now) table
          ∙ ap (λ xs. nodes_from (set ps (length es) c.args.position) xs c.push-2.new.self.keys c.put-2.new.self.numbers.now) pushed.entries
          ∙ ap (λ xs. nodes_from (set ps (length es) c.args.position) (es ++ (e ∷ [])) xs c.put-2.new.self.numbers.now) key_pushed.keys
          ∙ ap (λ xs. nodes_from (set ps (length es) c.args.position) (es ++ (e ∷ [])) (ks ++ (c.args.key ∷ [])) xs) links
          ∙ nodes_push ps es ks ls c.args.position e c.args.key link h.keyed (omega (arith, h.deep)) (omega (arith, h.linked))
          ),
      record {
        table = ap length c.put.ensures ∙ length-set ps _ c.args.position;
        numbers = (
            let link_numbers : length c.put-2.new.self.numbers.now ≡ length ls = ap length c.put-2.ensures ∙ length-set ls _ link in
            omega (arith, pushed.numbers, key_pushed.numbers)
            );
        capacity = pushed.capacity;
        longer = simp (pushed.entries, length-append) (omega arith);
        opened = refl;
        verdict = refl;
        steps = refl;
      },
    )
