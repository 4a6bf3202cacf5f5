use Rattle.std.proofs.Common.{◌≡◌, ◌++◌, ◌∷◌, take}
use Rattle.std.specs.Fmt.{decimal}
use Rattle.std.specs.List.{flat_map}
use Rattle.preference_desk.specs.Journals.{sessions_of}
use Rattle.demand_text.proofs.lines.put_sessions.Given as goal

abbrev pub invariant-entries : goal.invariant-entries
invariant-entries l = l.text.items ≡ l.initial.text.items ++ flat_map (λ n. 32 ∷ decimal n) (sessions_of (take l.entry-index l.journal))
