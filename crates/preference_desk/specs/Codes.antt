-- Codes of what contracts see of a shared desk.
use Rattle.std.specs.Prelude.{ℕ, ℤ, pos, ◌≡◌, List, [], ◌∷◌}
use Rattle.std.proofs.Common.{refl, ap}
use Rattle.std.specs.Coded.{Coded, code_by, coded_ℕ, coded×, coded_ℤ, coded_list}
use base.Stored.{coded_via}
use Rattle.market_units.specs.declared.names.Name.{Name}
use Rattle.market_units.specs.Name.{name_bytes}
use Rattle.market_units.specs.EqualNames.{same_name}
use Rattle.utility_language.specs.declared.commands.Command.{Command}
use Rattle.utility_language.specs.declared.commands.Command.TheVariants.{Rate, Pair, Clear, Close, Unreadable}
use Rattle.preference_desk.specs.declared.entry.Entry.{Entry}
use Rattle.preference_desk.specs.declared.reply.Reply.{Reply}
use Rattle.preference_desk.specs.DeskNames.{DeskNames}
use Rattle.preference_desk.specs.Histories.{coded_reply}

pub coded_names : Coded DeskNames
coded_names =
    code_by (List (List ℕ) × List (List ℕ))
    (coded× (coded_list (coded_list coded_ℕ)) (coded_list (coded_list coded_ℕ)))
    (λ names. (names.students, names.sections))
    (λ parts. record { students = parts.0; sections = parts.1 }) (λ _. refl)

coded_name : Coded Name
coded_name = coded_via (coded_list coded_ℕ) name_bytes same_name

-- the kind of a command, its names and its number
parts_of : Command → ℕ × (List Name × ℤ)
parts_of (Rate student section n) = (0, (student ∷ section ∷ [], n))
parts_of (Pair student first second n) = (1, (student ∷ first ∷ second ∷ [], n))
parts_of (Clear student) = (2, (student ∷ [], pos 0))
parts_of Close = (3, ([], pos 0))
parts_of Unreadable = (4, ([], pos 0))

same_command : (a b : Command) → parts_of a ≡ parts_of b → a ≡ b
unfolding parts_of
same_command (Rate s t n) (Rate s' t' n') e = let names = ap (λ p. p.1.0) e in let number = ap (λ p. p.1.1) e in cc
same_command (Pair s t u n) (Pair s' t' u' n') e = let names = ap (λ p. p.1.0) e in let number = ap (λ p. p.1.1) e in cc
same_command (Clear s) (Clear s') e = let names = ap (λ p. p.1.0) e in cc
same_command Close Close e = refl
same_command Unreadable Unreadable e = refl
same_command (Rate s t n) (Pair s' t' u' n') e = let kind = ap (λ p. p.0) e in cc
same_command (Rate s t n) (Clear s') e = let kind = ap (λ p. p.0) e in cc
same_command (Rate s t n) Close e = let kind = ap (λ p. p.0) e in cc
same_command (Rate s t n) Unreadable e = let kind = ap (λ p. p.0) e in cc
same_command (Pair s t u n) (Rate s' t' n') e = let kind = ap (λ p. p.0) e in cc
same_command (Pair s t u n) (Clear s') e = let kind = ap (λ p. p.0) e in cc
same_command (Pair s t u n) Close e = let kind = ap (λ p. p.0) e in cc
same_command (Pair s t u n) Unreadable e = let kind = ap (λ p. p.0) e in cc
same_command (Clear s) (Rate s' t' n') e = let kind = ap (λ p. p.0) e in cc
same_command (Clear s) (Pair s' t' u' n') e = let kind = ap (λ p. p.0) e in cc
same_command (Clear s) Close e = let kind = ap (λ p. p.0) e in cc
same_command (Clear s) Unreadable e = let kind = ap (λ p. p.0) e in cc
same_command Close (Rate s' t' n') e = let kind = ap (λ p. p.0) e in cc
same_command Close (Pair s' t' u' n') e = let kind = ap (λ p. p.0) e in cc
same_command Close (Clear s') e = let kind = ap (λ p. p.0) e in cc
same_command Close Unreadable e = let kind = ap (λ p. p.0) e in cc
same_command Unreadable (Rate s' t' n') e = let kind = ap (λ p. p.0) e in cc
same_command Unreadable (Pair s' t' u' n') e = let kind = ap (λ p. p.0) e in cc
same_command Unreadable (Clear s') e = let kind = ap (λ p. p.0) e in cc
same_command Unreadable Close e = let kind = ap (λ p. p.0) e in cc

coded_command : Coded Command
coded_command =
    coded_via (coded× coded_ℕ (coded× (coded_list coded_name) coded_ℤ)) parts_of same_command

pub coded_entry : Coded Entry
coded_entry =
    code_by (ℕ × (Command × Reply)) (coded× coded_ℕ (coded× coded_command coded_reply))
    (λ entry. (entry.session, (entry.command, entry.reply)))
    (λ parts. record { session = parts.0; command = parts.1.0; reply = parts.1.1 }) (λ _. refl)
