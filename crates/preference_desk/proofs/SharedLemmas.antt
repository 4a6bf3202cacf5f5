-- The steps of a shared desk are its entries.
use Rattle.std.proofs.Common.{◌≡◌, ◌+◌, [], ◌∷◌, ◌++◌, append-nil, append_assoc, map, refl, ap, sym, ◌∙◌}
use Rattle.preference_desk.specs.Entries.{entry_of}
use Rattle.preference_desk.specs.Shared.{told_after, told_reply, entry_of_step, StepsAreEntriesLaw}

pub steps_are_entries_law : StepsAreEntriesLaw
steps_are_entries_law known told [] legal = record { entries = sym (append-nil told.entries); state = refl; legal = tt }
steps_are_entries_law known told (step ∷ more) legal =
    let rest = steps_are_entries_law known (told_after known told step.seat step.request) more legal.2 in
    let entry : entry_of (step.seat + 1) step.request (told_reply known told step.seat step.request) ≡ entry_of_step step =
    ap (entry_of (step.seat + 1) step.request) (sym legal.1) in
    record {
      entries =
          rest.entries ∙ ap (λ entry. (told.entries ++ entry ∷ []) ++ map entry_of_step more) entry
          ∙ append_assoc told.entries (entry_of_step step ∷ []) (map entry_of_step more);
      state = rest.state;
      legal = (legal.1, rest.legal);
    }
