-- What the preferences of each student keep, whatever is commanded.
use Rattle.std.proofs.Common.{ℕ, ◌==◌, ◌≡◌, Bool, true, false, true≢false, not, cond, List, [], ◌∷◌, length, get_or, refl, sym, ◌∙◌, subst, inl, inr}
use Rattle.std.specs.Prelude.{ℤ, All, unsigned_abs}
use Rattle.std.specs.Ordering.{eq_by_cmp}
use Rattle.std.specs.FinMap.{FinMap, entries, entries-insert, insert, remove}
use Rattle.std.proofs.lemmas.Bool.{cases_lt}
use Rattle.std.proofs.Math.ListN.{get_or-eq_default}
use Rattle.std.proofs.lemmas.List.Elements.{All-filter, All-replicate}
use Rattle.utility_language.specs.declared.commands.Command.{Command}
use Rattle.preference_desk.specs.declared.entry.Entry.{Entry}
use Rattle.preference_desk.specs.declared.reply.Reply.{Reply}
use Rattle.preference_desk.specs.DeskNames.{DeskNames}
use Rattle.preference_desk.specs.DeskStep.{DeskState, is_done, changed, reply_to, state_after}
use Rattle.preference_desk.specs.Journals.{opening, state_after_all}
use Rattle.preference_desk.specs.StudentPreferences.{StudentPreferences, no_preferences, pair_cmp, with_pair}
use Rattle.preference_desk.proofs.PairLemmas.{pair_cmp_total, pair_cmp_same}
use Rattle.preference_desk.proofs.RowLemmas.{entries-remove, All-put}

-- what holds of each item and of the default
pub at_or_default : {A : Type 0} (P : A → Type 0) (xs : List A) (i : ℕ) (d : A) → All P xs → P d → P (get_or xs i d)
at_or_default P xs i d each none = elim (cases_lt i (length xs)) [
  | inl inside ↦ each i d inside
  | inr above ↦ let e = get_or-eq_default xs d above in subst P (sym e) none
]

-- a command that is carried out has passed each test on the way
pub done_skips : (b : Bool) (answer rest : Reply) → is_done answer ≡ false → is_done (cond b answer rest) ≡ true → (b ≡ false) × (is_done rest ≡ true)
done_skips true answer rest refused e = absurd (true≢false (sym e ∙ refused))
done_skips false answer rest refused e = (refl, e)

-- what holds of each adjusted pair holds of each behind one more for which it holds
pub pair_keeps : (P : (ℕ × ℕ) → Type 0) (pairs : FinMap {K = ℕ × ℕ} pair_cmp ℤ) (pair : ℕ × ℕ) (size : ℤ)
    → All (λ (adjusted : (ℕ × ℕ) × ℤ). P adjusted.0) (entries pairs) → P pair
    → All (λ (adjusted : (ℕ × ℕ) × ℤ). P adjusted.0) (entries (with_pair pairs pair size))
pair_keeps P pairs pair size each here =
    elim (unsigned_abs size == 0) as (λ b. All (λ (adjusted : (ℕ × ℕ) × ℤ). P adjusted.0) (entries (cond b (remove pairs pair) (insert pairs pair size)))) [
      | true ↦
          rw (entries-remove pair_cmp pair_cmp_total pair_cmp_same pairs pair)
          (All-filter (λ e. not (eq_by_cmp pair_cmp pair e.0)) (λ (adjusted : (ℕ × ℕ) × ℤ). P adjusted.0) (entries pairs) each)
      | false ↦ rw (entries-insert pair_cmp_total pairs pair size) (All-put pair_cmp pair_cmp_total P pair size (entries pairs) each here)
    ]

-- what holds of no preferences, and of each student's behind each command that is carried out
module _ (P : StudentPreferences → Type 0) (names : DeskNames) (none : P no_preferences)
    (changes : (state : DeskState) (command : Command) → All P state.preferences → is_done (reply_to names state command) ≡ true
    → All P (changed names state command).preferences) where
  step_keeps : (state : DeskState) (command : Command) (b : Bool) → is_done (reply_to names state command) ≡ b → All P state.preferences
      → All P (cond b (changed names state command) state).preferences
  step_keeps state command true e each = changes state command each e
  step_keeps state command false e each = each

  steps_keep : (state : DeskState) (journal : List Entry) → All P state.preferences → All P (state_after_all names state journal).preferences
  steps_keep state [] each = each
  steps_keep state (entry ∷ more) each = steps_keep (state_after names state entry.command) more (step_keeps state entry.command _ refl each)

  -- holds of each student's closed preferences
  pub closed_keep : (journal : List Entry) → All P (state_after_all names (opening names) journal).preferences
  closed_keep journal = steps_keep (opening names) journal (All-replicate P (length names.students) no_preferences none)
