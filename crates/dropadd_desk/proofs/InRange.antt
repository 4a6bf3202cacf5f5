-- What replies name.
use Rattle.std.proofs.Common.{ℕ, ◌≡◌, ◌<◌, Bool, true, false, List, [], ◌∷◌, length, refl, sym, subst, inl, inr, Some, None}
use Rattle.std.specs.Prelude.{option_map, if◌then◌else◌, Option}
use Rattle.std.specs.List.{before_first, find}
use Rattle.std.proofs.lemmas.List.Elements.{All-cons, All-nil}
use Rattle.course_catalog.specs.Sections.{sections_clash}
use Rattle.market_units.specs.Members.{has}
use Rattle.dropadd_desk.specs.declared.command.HallCommand.{HallCommand}
use Rattle.dropadd_desk.specs.declared.command.HallCommand.TheVariants.{Add, Drop, Leave, Unreadable}
use Rattle.dropadd_desk.specs.declared.reply.HallReply.{HallReply}
use Rattle.dropadd_desk.specs.declared.reply.HallReply.TheVariants as reply
use Rattle.dropadd_desk.specs.declared.shared.HallState.{HallState}
use Rattle.dropadd_desk.specs.Fits.{fits, lowest_clash, exceeds_credits, exceeds_courses}
use Rattle.dropadd_desk.specs.Halls.{IsHall}
use Rattle.dropadd_desk.specs.Laws.{RepliesInRangeLaw}
use Rattle.dropadd_desk.specs.Lines.{HallStep}
use Rattle.dropadd_desk.specs.Market.{Market, section_count, student_count}
use Rattle.dropadd_desk.specs.Replies.{NamesInRange}
use Rattle.bundle_rules.specs.Sets.{without_section}
use Rattle.dropadd_desk.specs.Shared.{state_after}
use Rattle.dropadd_desk.specs.Step.{add, answered, drop as drop_section, first_of, has_free_seat, held_by, leave, pass_on, refusal, step as step_of, waiting_for, where_so, with_held}
use Rattle.dropadd_desk.proofs.Conserved.{hall_after, names_or_quiet}
use Rattle.dropadd_desk.proofs.Steps.{within_at}
use Rattle.market_units.proofs.Memberships.{found_in}

-- a reply that is there names what is there
abbrev pub InRangeOrNone : Market → Option HallReply → Type 0
InRangeOrNone market None = Unit {0}
InRangeOrNone market (Some answer) = NamesInRange market answer

module _ (market : Market) where
  first_named : (o : Option HallReply) (more : List (Option HallReply)) → InRangeOrNone market o → InRangeOrNone market (first_of more)
      → InRangeOrNone market (first_of (o ∷ more))
  first_named None more here rest = rest
  first_named (Some answer) more here rest = here

  so_named : (b : Bool) (answer : HallReply) → NamesInRange market answer → InRangeOrNone market (where_so b answer)
  so_named true answer is = is
  so_named false answer is = tt

  clash_named : (o : Option ℕ) → ((t : ℕ) → o ≡ Some t → t < section_count market)
      → InRangeOrNone market (option_map (λ (t : ℕ). reply.Clash (record { 0 = t })) o)
  clash_named None low = tt
  clash_named (Some t) low = low t refl

  answered_named : (o : Option HallReply) (state : HallState) (other : HallReply × HallState) → InRangeOrNone market o → NamesInRange market other.0
      → NamesInRange market (answered o state other).0
  answered_named None state other here rest = rest
  answered_named (Some answer) state other here rest = here

  either_named : (b : Bool) (one other : HallReply × HallState) → NamesInRange market one.0 → NamesInRange market other.0
      → NamesInRange market (if b then one else other).0
  either_named true one other here there = here
  either_named false one other here there = there

  next_named : (lapsed : ℕ) (o : Option ℕ) → ((w : ℕ) → o ≡ Some w → w < student_count market)
      → NamesInRange market (reply.Dropped lapsed (option_map (λ (i : ℕ). record { 0 = i }) o))
  next_named lapsed None low = tt
  next_named lapsed (Some w) low = low w refl

  passed_named : (state : HallState) (s : ℕ) → ((i : ℕ) → has (waiting_for state s) i ≡ true → i < student_count market)
      → NamesInRange market (pass_on market state s).0
  unfolding pass_on
  passed_named state s within =
      let fit : ℕ → Bool = λ i. fits market i s (held_by state i) in
      next_named (length (before_first fit (waiting_for state s))) (find fit (waiting_for state s)) (λ w e. within w (found_in fit (waiting_for state s) w e))

  module _ (state : HallState) (is : IsHall market state) where
    refusal_named : (i s : ℕ) → InRangeOrNone market (refusal market state i s)
    refusal_named i s =
        first_named _ _ (so_named (has (held_by state i) s) reply.Holding tt)
        (first_named _ _ (so_named (has (waiting_for state s) i) reply.Waiting tt)
        (first_named _ _ (clash_named (lowest_clash market s (held_by state i)) (λ t e. within_at market state i t is (found_in (λ u. sections_clash market.catalog.sections s u) (held_by state i) t e)))
        (first_named _ _ (so_named (exceeds_credits market i s (held_by state i)) reply.Credits tt)
        (first_named _ _ (so_named (exceeds_courses market i (held_by state i)) reply.Courses tt) tt))))

    add_named : (i s : ℕ) → NamesInRange market (add market state i s).0
    unfolding add
    add_named i s = answered_named (refusal market state i s) state _ (refusal_named i s) (either_named (has_free_seat market state s) _ _ tt tt)

    leave_named : (i s : ℕ) → NamesInRange market (leave state i s).0
    unfolding leave
    leave_named i s = either_named (has (waiting_for state s) i) _ _ tt tt

    drop_named : (i s : ℕ) → NamesInRange market (drop_section market state i s).0
    unfolding drop_section
    drop_named i s =
        either_named (has (held_by state i) s) _ _
        (passed_named (with_held state i (without_section s (held_by state i))) s (λ w there. (is.queues s).within w there)) tt

    step_named : (command : HallCommand) → NamesInRange market (step_of market state command).0
    unfolding step_of
    step_named Unreadable = tt
    step_named (Add student section) = elim (names_or_quiet market state student section (add market state)) [
      | inl q ↦ subst (λ (o : HallReply × HallState). NamesInRange market o.0) (sym q.1) q.3
      | inr n ↦ subst (λ (o : HallReply × HallState). NamesInRange market o.0) (sym n.made_is) (add_named n.i n.s)
    ]
    step_named (Drop student section) = elim (names_or_quiet market state student section (drop_section market state)) [
      | inl q ↦ subst (λ (o : HallReply × HallState). NamesInRange market o.0) (sym q.1) q.3
      | inr n ↦ subst (λ (o : HallReply × HallState). NamesInRange market o.0) (sym n.made_is) (drop_named n.i n.s)
    ]
    step_named (Leave student section) = elim (names_or_quiet market state student section (leave state)) [
      | inl q ↦ subst (λ (o : HallReply × HallState). NamesInRange market o.0) (sym q.1) q.3
      | inr n ↦ subst (λ (o : HallReply × HallState). NamesInRange market o.0) (sym n.made_is) (leave_named n.i n.s)
    ]

pub replies_in_range : RepliesInRangeLaw
replies_in_range market opening [] is legal = All-nil (λ (step : HallStep). NamesInRange market step.reply)
replies_in_range market opening (step ∷ more) is legal =
    All-cons (λ (step : HallStep). NamesInRange market step.reply) step more
    (subst (NamesInRange market) (sym legal.1) (step_named market opening is step.request))
    (replies_in_range market (state_after market opening step.seat step.request) more (hall_after market opening step.request is) legal.2)
