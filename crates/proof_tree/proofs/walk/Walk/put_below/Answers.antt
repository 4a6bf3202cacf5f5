use Rattle.std.proofs.Common.{rules, ◌≡◌, ◌≢◌, ◌<◌, ◌≤◌, ◌+◌, ◌++◌, ◌∷◌, [], ℕ, suc, length, slice_index_or, slice_set, refl, sym, subst, ap, ◌∙◌, arith}
use Rattle.bundle_rules.specs.Bundles.{sections_of}
use Rattle.bundle_rules.specs.Menus.{section_at}
use Rattle.bundle_bounds.specs.declared.nodes.Node.{Node}
use Rattle.proof_tree.specs.Claims.{offer_in, champion_in, champions_places}
use Rattle.proof_tree.specs.Visits.{chosen_at, IsSignAt}
use Rattle.proof_tree.specs.Steps.{MayWait, waiting_of, spots_of}
use Rattle.proof_tree.specs.Standing.{IsStemAt}
use Rattle.proof_tree.proofs.Stepping.{room_for_two, open_where_forced, wait_with, wait_without, spot_with, spot_without}
use Rattle.proof_tree.proofs.Stands.{stems_more, stem_same, stems_behind, stems_set, stem_set, stem_other, room_behind}
use Rattle.proof_tree.proofs.walk.Walk.put_below.Goals as goal

few_more : (count next : ℕ) → count ≤ 8 → next ≡ count + 1 → next ≤ 9
few_more count next low is = omega arith

one_more : (a b : ℕ) → a ≤ b → suc a ≤ b + 1
one_more a b low = omega arith

low_suc : (n : ℕ) → n ≤ 8 → n < 9
low_suc n low = omega arith

same_size : (n m at : ℕ) → m ≡ 9 → n ≡ m → at ≤ 8 → at < n
same_size n m at whole same low = omega arith

within : (n at : ℕ) → n ≡ 9 → at < 9 → at < n
within n at whole low = omega arith

next_apart : (n : ℕ) → n + 1 ≢ n
next_apart n same = absurd (omega arith)

pub with_next-with-requires-clause-open : goal.with_next-with-requires-clause-open
with_next-with-requires-clause-open c =
    let visit = c.args.visit.now in
    open_where_forced (offer_in visit.claim) visit.claim.required (champions_places visit.claim) visit.node.place (chosen_at visit)
    (subst (IsSignAt visit) c.in-Forced.is c.requires.sign)

pub with_next-with-requires-clause-at : goal.with_next-with-requires-clause-at
with_next-with-requires-clause-at c =
    let visit = c.args.visit.now in
    let offer = offer_in visit.claim in
    let sign = subst (IsSignAt visit) c.in-Forced.is c.requires.sign in
    within _ _ c.requires.stems.whole
    (room_behind offer c.args.self.now visit.node c.len.ensures.menu c.requires.waits (search rules) sign.0.left
    (open_where_forced offer visit.claim.required (champions_places visit.claim) visit.node.place (chosen_at visit) sign))

pub with_next-with-requires-in-Open-clause-open : goal.with_next-with-requires-in-Open-clause-open
with_next-with-requires-in-Open-clause-open c = (subst (IsSignAt c.args.visit.now) c.in-Open.is c.requires.sign).2

pub with_next-with-requires-in-Open-clause-at : goal.with_next-with-requires-in-Open-clause-at
with_next-with-requires-in-Open-clause-at c =
    let visit = c.args.visit.now in
    let sign = subst (IsSignAt visit) c.in-Open.is c.requires.sign in
    within _ _ c.requires.stems.whole
    (room_behind (offer_in visit.claim) c.args.self.now visit.node c.len.ensures.menu c.requires.waits (search rules) sign.0.left sign.2)

pub put-requires-in-Open-2 : goal.put-requires-in-Open-2
put-requires-in-Open-2 c =
    low_suc _
    (room_for_two c.put-in-Open.new.self.waiting (waiting_of c.args.self.now) c.put-in-Open.new.self.count _ _ c.put-in-Open.ensures.whole
    c.put-in-Open.ensures.waiting c.requires.waits.0 c.with_next-with-in-Open.ensures.room)

pub returns-in-Forced-clause-may_wait : goal.returns-in-Forced-clause-may_wait
returns-in-Forced-clause-may_wait c =
    let visit = c.args.visit.now in
    let offer = offer_in visit.claim in
    let sign = subst (IsSignAt visit) c.in-Forced.is c.requires.sign in
    let few : length (waiting_of c.args.self.now) ≤ length (sections_of c.args.visit.now.node.chosen) = c.requires.waits.0 in
    record {
      few = few_more c.args.self.now.count c.put.new.self.count c.requires.few c.put.ensures.count;
      nodes =
          subst (MayWait offer) (sym c.put.ensures.waiting)
          (wait_with offer visit.node (waiting_of c.args.self.now) c.requires.waits sign.0.left c.len.ensures.menu c.with_next-with.result
          (waiting_of c.args.self.now) c.with_next-with.ensures.place c.with_next-with.ensures.chosen
          (open_where_forced offer visit.claim.required (champions_places visit.claim) visit.node.place (chosen_at visit) sign)
          (omega arith) c.requires.waits.3);
    }

pub returns-in-Forced-clause-below : goal.returns-in-Forced-clause-below
returns-in-Forced-clause-below c =
    let visit = c.args.visit.now in
    let offer = offer_in visit.claim in
    let sign = subst (IsSignAt visit) c.in-Forced.is c.requires.sign in
    rw (c.in-Forced.is, c.put.ensures.waiting)
    (ap (λ s. s ∷ spots_of offer.menu (waiting_of c.args.self.now))
    (spot_with offer visit.node (waiting_of c.args.self.now) c.requires.waits sign.0.left c.len.ensures.menu c.with_next-with.result
    c.with_next-with.ensures.place c.with_next-with.ensures.chosen))

pub returns-in-Forced-clause-stems : goal.returns-in-Forced-clause-stems
returns-in-Forced-clause-stems c =
    let visit = c.args.visit.now in
    let offer = offer_in visit.claim in
    let champion = champion_in visit.claim in
    let at = c.args.self.now.count in
    let taken = c.with_next-with.new.stems in
    let stem = slice_index_or taken (at + 1) c.index-self-at.result in
    let next = sections_of visit.node.chosen ++ section_at offer.menu.places visit.node.place ∷ [] in
    let low = same_size _ _ at c.requires.stems.whole c.with_next-with.auto.stems c.requires.few in
    let have =
    stems_set offer champion (record c.args.self.now { stems = taken }) at stem
    (stems_behind offer champion c.args.self.now taken c.requires.stems c.with_next-with.auto.stems
    (λ i d before. c.with_next-with.ensures.others i d (λ same. absurd (omega arith))))
    (omega arith) in
    stems_more offer champion (record c.args.self.now { stems = slice_set taken at stem }) c.put.new.self c.with_next-with.result have c.put.ensures.stems
    c.put.ensures.count c.put.ensures.others c.put.ensures.here
    (stem_same offer champion (slice_set taken at stem) (slice_set taken at stem) at (visit.node.place + 1) c.with_next-with.result.place next
    (sections_of c.with_next-with.result.chosen) refl (sym c.with_next-with.ensures.place) (sym c.with_next-with.ensures.chosen)
    (stem_set offer champion taken at (visit.node.place + 1) next stem low
    (c.with_next-with.ensures.stem c.index-self-at.result)))

pub returns-in-Open-clause-may_wait : goal.returns-in-Open-clause-may_wait
returns-in-Open-clause-may_wait c =
    let visit = c.args.visit.now in
    let offer = offer_in visit.claim in
    let under = waiting_of c.args.self.now in
    let sign = subst (IsSignAt visit) c.in-Open.is c.requires.sign in
    let without : Node = record { place = visit.node.place + 1; chosen = visit.node.chosen } in
    let few : length (waiting_of c.args.self.now) ≤ length (sections_of c.args.visit.now.node.chosen) = c.requires.waits.0 in
    let after = wait_without offer visit.node under c.requires.waits sign.0.left without refl refl in
    let both =
    wait_with offer visit.node under c.requires.waits sign.0.left c.len.ensures.menu c.with_next-with-in-Open.result (without ∷ under)
    c.with_next-with-in-Open.ensures.place c.with_next-with-in-Open.ensures.chosen sign.2 (one_more _ _ few) after in
    record {
      few =
          few_more c.put-in-Open.new.self.count c.put-in-Open-2.new.self.count
          (room_for_two c.put-in-Open.new.self.waiting under c.put-in-Open.new.self.count _ _ c.put-in-Open.ensures.whole c.put-in-Open.ensures.waiting few
          c.with_next-with-in-Open.ensures.room)
          c.put-in-Open-2.ensures.count;
      nodes =
          subst (MayWait offer) (sym (c.put-in-Open-2.ensures.waiting ∙ ap (λ ns. c.with_next-with-in-Open.result ∷ ns) c.put-in-Open.ensures.waiting)) both;
    }

pub returns-in-Open-clause-below : goal.returns-in-Open-clause-below
returns-in-Open-clause-below c =
    let visit = c.args.visit.now in
    let offer = offer_in visit.claim in
    let under = waiting_of c.args.self.now in
    let sign = subst (IsSignAt visit) c.in-Open.is c.requires.sign in
    let without : Node = record { place = visit.node.place + 1; chosen = visit.node.chosen } in
    let first =
    spot_with offer visit.node under c.requires.waits sign.0.left c.len.ensures.menu c.with_next-with-in-Open.result
    c.with_next-with-in-Open.ensures.place c.with_next-with-in-Open.ensures.chosen in
    let second = spot_without offer visit.node under c.requires.waits sign.0.left without refl refl in
    rw (c.in-Open.is, c.put-in-Open-2.ensures.waiting, c.put-in-Open.ensures.waiting) (λ i. first i ∷ second i ∷ spots_of offer.menu under)

pub returns-in-Open-clause-stems : goal.returns-in-Open-clause-stems
returns-in-Open-clause-stems c =
    let visit = c.args.visit.now in
    let offer = offer_in visit.claim in
    let champion = champion_in visit.claim in
    let at = c.args.self.now.count in
    let taken = c.with_next-with-in-Open.new.stems in
    let stem = c.pass.new.self in
    let next = sections_of visit.node.chosen ++ section_at offer.menu.places visit.node.place ∷ [] in
    let low = same_size _ _ at c.requires.stems.whole c.with_next-with-in-Open.auto.stems c.requires.few in
    let have =
    stems_set offer champion (record c.args.self.now { stems = taken }) at stem
    (stems_behind offer champion c.args.self.now taken c.requires.stems c.with_next-with-in-Open.auto.stems
    (λ i d before. c.with_next-with-in-Open.ensures.others i d (λ same. absurd (omega arith))))
    (omega arith) in
    let first =
    stems_more offer champion (record c.args.self.now { stems = slice_set taken at stem }) c.put-in-Open.new.self
    (record { place = visit.node.place + 1; chosen = visit.node.chosen }) have c.put-in-Open.ensures.stems c.put-in-Open.ensures.count
    c.put-in-Open.ensures.others c.put-in-Open.ensures.here
    (stem_set offer champion taken at (visit.node.place + 1) (sections_of visit.node.chosen) stem low c.pass.ensures) in
    stems_more offer champion c.put-in-Open.new.self c.put-in-Open-2.new.self c.with_next-with-in-Open.result first c.put-in-Open-2.ensures.stems
    c.put-in-Open-2.ensures.count c.put-in-Open-2.ensures.others c.put-in-Open-2.ensures.here
    (subst
    (λ n. IsStemAt offer champion c.put-in-Open.new.self.stems n c.with_next-with-in-Open.result.place
    (sections_of c.with_next-with-in-Open.result.chosen))
    (sym c.put-in-Open.ensures.count)
    (stem_same offer champion (slice_set taken at stem) c.put-in-Open.new.self.stems (at + 1) (visit.node.place + 1)
    c.with_next-with-in-Open.result.place next (sections_of c.with_next-with-in-Open.result.chosen) (sym c.put-in-Open.ensures.stems)
    (sym c.with_next-with-in-Open.ensures.place) (sym c.with_next-with-in-Open.ensures.chosen)
    (stem_other offer champion taken at (at + 1) (visit.node.place + 1) next stem (next_apart at) c.with_next-with-in-Open.ensures.stem)))

pub returns-in-Passed-clause-stems : goal.returns-in-Passed-clause-stems
returns-in-Passed-clause-stems c =
    let visit = c.args.visit.now in
    let offer = offer_in visit.claim in
    let champion = champion_in visit.claim in
    let at = c.args.self.now.count in
    let stem = c.pass-in-Passed.new.self in
    stems_more offer champion (record c.args.self.now { stems = slice_set c.args.self.now.stems at stem }) c.put-in-Passed.new.self
    (record { place = visit.node.place + 1; chosen = visit.node.chosen })
    (stems_set offer champion c.args.self.now at stem c.requires.stems (omega arith)) c.put-in-Passed.ensures.stems c.put-in-Passed.ensures.count
    c.put-in-Passed.ensures.others c.put-in-Passed.ensures.here
    (stem_set offer champion c.args.self.now.stems at (visit.node.place + 1) (sections_of visit.node.chosen) stem
    (within _ _ c.requires.stems.whole (low_suc _ c.requires.few)) c.pass-in-Passed.ensures)
