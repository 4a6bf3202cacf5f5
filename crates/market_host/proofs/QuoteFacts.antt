-- Desks to which commands are said one by one, and the menu of an only student.
use Rattle.std.proofs.Common.{ℕ, ◌≡◌, ◌<◌, ◌+◌, List, [], ◌∷◌, ◌++◌, ◌∙◌, ap, sym, subst, refl, length, take, get_or, arith}
use Rattle.std.proofs.lemmas.List.{take_more}
use Rattle.std.specs.Prelude.{ℤ, slice_index_or}
use Rattle.bundle_rules.specs.Menus.{MenuData}
use Rattle.course_catalog.specs.Sections.{Section}
use Rattle.market_menus.specs.MenusOf.{AreMenusOf, IsMenuOf}
use Rattle.preference_desk.specs.DeskNames.{DeskNames}
use Rattle.preference_desk.specs.DeskStep.{DeskState, state_after}
use Rattle.preference_desk.specs.StudentPreferences.{StudentPreferences, no_preferences}
use Rattle.student_roll.specs.Students.{Student}
use Rattle.utility_language.specs.declared.commands.Command.{Command}
use Rattle.market_host.specs.Quotes.{quoted_text, state_after_commands, state_of_new_desk, wanted_after}

one_more : (names : DeskNames) (state : DeskState) (commands : List Command) (command : Command)
    → state_after_commands names state (commands ++ command ∷ []) ≡ state_after names (state_after_commands names state commands) command
one_more names state [] command = refl
one_more names state (first ∷ more) command = one_more names (state_after names state first) more command

-- the state after one more command
pub said_more : (names : DeskNames) (state : DeskState) (commands : List Command) (n : ℕ) (d : Command) → n < length commands
    → state_after_commands names state (take (n + 1) commands) ≡ state_after names (state_after_commands names state (take n commands)) (get_or commands n d)
said_more names state commands n d below =
    ap (state_after_commands names state) (take_more commands n d below) ∙ one_more names state (take n commands) (get_or commands n d)

-- the state after one more command, in the desk's words
pub said_next : (names mine : DeskNames) (start old new : DeskState) (commands : List Command) (n : ℕ) (command : Command) → n < length commands
    → command ≡ get_or commands n command → mine ≡ names
    → old ≡ state_after_commands names start (take n commands) → new ≡ state_after mine old command
    → new ≡ state_after_commands names start (take (n + 1) commands)
said_next names mine start old new commands n command below at same before after =
    after ∙ ap (λ all. state_after all old command) same ∙ ap (λ state. state_after names state command) before
    ∙ ap (state_after names (state_after_commands names start (take n commands))) at ∙ sym (said_more names start commands n command below)

-- an only student has a menu
pub has_menu : (catalog : List Section) (student : Student) (preferences : List StudentPreferences) (menus : List MenuData)
    → AreMenusOf catalog (student ∷ []) preferences menus → 0 < length menus
has_menu catalog student (wanted ∷ more) (menu ∷ menus) are = omega arith
has_menu catalog student [] menus are = absurd are
has_menu catalog student (wanted ∷ more) [] are = absurd are

-- it is the first one
pub first_menu : (catalog : List Section) (student : Student) (preferences : List StudentPreferences) (menus : List MenuData) (d : MenuData)
    → AreMenusOf catalog (student ∷ []) preferences menus
    → IsMenuOf catalog student (slice_index_or preferences 0 no_preferences) (get_or menus 0 d)
first_menu catalog student (wanted ∷ more) (menu ∷ menus) d are = are.0
first_menu catalog student [] menus d are = absurd are
first_menu catalog student (wanted ∷ more) [] d are = absurd are

-- it is a menu of what the student wants after the commands
pub menu_after : (catalog : List Section) (student : Student) (roll : List Student) (preferences : List StudentPreferences) (menus : List MenuData)
    (state : DeskState) (commands : List Command) (menu : MenuData)
    → roll ≡ student ∷ [] → preferences ≡ state.preferences → state ≡ state_of_new_desk catalog roll commands → AreMenusOf catalog roll preferences menus
    → menu ≡ get_or menus 0 menu
    → IsMenuOf catalog student (wanted_after catalog student commands) menu
menu_after catalog student roll preferences menus state commands menu one same after are at =
    let first : IsMenuOf catalog student (slice_index_or preferences 0 no_preferences) (get_or menus 0 menu) =
    first_menu catalog student preferences menus menu (subst (λ all. AreMenusOf catalog all preferences menus) one are) in
    let end : state ≡ state_of_new_desk catalog (student ∷ []) commands = after ∙ ap (λ all. state_of_new_desk catalog all commands) one in
    let wanted : slice_index_or preferences 0 no_preferences ≡ wanted_after catalog student commands =
    ap (λ all. slice_index_or all 0 no_preferences) same ∙ ap (λ (s : DeskState). slice_index_or s.preferences 0 no_preferences) end in
    subst (λ w. IsMenuOf catalog student w menu) wanted (subst (IsMenuOf catalog student (slice_index_or preferences 0 no_preferences)) (sym at) first)

-- the same text, by the bundle and its utility
pub same_text : (catalog : List Section) (name text bundle told : List ℕ) (worth said : ℤ) → told ≡ bundle → said ≡ worth
    → text ≡ quoted_text catalog name told said → text ≡ quoted_text catalog name bundle worth
same_text catalog name text bundle told worth said one other is =
    is ∙ ap (λ list. quoted_text catalog name list said) one ∙ ap (λ n. quoted_text catalog name bundle n) other
