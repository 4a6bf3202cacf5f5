-- A journal with the state that it leads to, as a fact that has one proof at most.
use Rattle.std.specs.Prelude.{ℕ, zero, suc, ℤ, Bool, ◌≡◌, List, [], ◌∷◌}
use Rattle.std.proofs.Common.{refl}
use Rattle.std.specs.Ordering.{nat_cmp}
use Rattle.std.specs.FinMap.{FinMap, code}
use Rattle.std.specs.Coded.{Coded, code_by, coded_ℕ, coded×, coded_ℤ, coded_bool, coded_list, Coded-set, ×_prop, Unit-prop}
use Rattle.preference_desk.specs.declared.entry.Entry.{Entry}
use Rattle.preference_desk.specs.declared.reply.Reply.{Reply}
use Rattle.preference_desk.specs.declared.reply.Reply.TheVariants as reply
use Rattle.preference_desk.specs.DeskNames.{DeskNames}
use Rattle.preference_desk.specs.DeskStep.{DeskState, reply_to, state_after}
use Rattle.preference_desk.specs.Journals.{IsLegalFrom, IsLegalJournal, opening, state_after_all}
use Rattle.preference_desk.specs.StudentPreferences.{StudentPreferences, pair_cmp}

-- the journal is legal, and the state is the one after it
pub record IsHistory (names : DeskNames) (state : DeskState) (entries : List Entry) : Type 0 where
  pub legal : IsLegalJournal names entries
  pub after : state ≡ state_after_all names (opening names) entries

coded_preferences : Coded StudentPreferences
coded_preferences =
    code_by (FinMap {K = ℕ} nat_cmp ℕ × FinMap {K = ℕ × ℕ} pair_cmp ℤ)
    (coded× (code coded_ℕ coded_ℕ) (code (coded× coded_ℕ coded_ℕ) coded_ℤ))
    (λ wanted. (wanted.ratings, wanted.pairs)) (λ maps. record { ratings = maps.0; pairs = maps.1 })
    (λ _. refl)

pub coded_state : Coded DeskState
coded_state =
    code_by (List StudentPreferences × Bool) (coded× (coded_list coded_preferences) coded_bool)
    (λ state. (state.preferences, state.closed))
    (λ parts. record { preferences = parts.0; closed = parts.1 }) (λ _. refl)

number_of : Reply → ℕ
number_of reply.Unreadable = 0
number_of reply.Closed = 1
number_of reply.NoStudent = 2
number_of reply.NoSection = 3
number_of reply.SamePair = 4
number_of reply.OutOfRange = 5
number_of reply.TooMany = 6
number_of reply.Done = 7

reply_of : ℕ → Reply
reply_of zero = reply.Unreadable
reply_of (suc zero) = reply.Closed
reply_of (suc (suc zero)) = reply.NoStudent
reply_of (suc (suc (suc zero))) = reply.NoSection
reply_of (suc (suc (suc (suc zero)))) = reply.SamePair
reply_of (suc (suc (suc (suc (suc zero))))) = reply.OutOfRange
reply_of (suc (suc (suc (suc (suc (suc zero)))))) = reply.TooMany
reply_of (suc (suc (suc (suc (suc (suc (suc more))))))) = reply.Done

reply_back : (answer : Reply) → reply_of (number_of answer) ≡ answer
unfolding number_of reply_of
reply_back reply.Unreadable = refl
reply_back reply.Closed = refl
reply_back reply.NoStudent = refl
reply_back reply.NoSection = refl
reply_back reply.SamePair = refl
reply_back reply.OutOfRange = refl
reply_back reply.TooMany = refl
reply_back reply.Done = refl

pub coded_reply : Coded Reply
coded_reply = code_by ℕ coded_ℕ number_of reply_of reply_back

IsLegalFrom-prop : (names : DeskNames) (state : DeskState) (entries : List Entry)
    → IsProp (IsLegalFrom names state entries)
IsLegalFrom-prop names state [] = Unit-prop
IsLegalFrom-prop names state (entry ∷ more) =
    ×_prop (Coded-set coded_reply entry.reply (reply_to names state entry.command))
    (IsLegalFrom-prop names (state_after names state entry.command) more)

pub IsHistory-prop : (names : DeskNames) (state : DeskState) (entries : List Entry)
    → IsProp (IsHistory names state entries)
IsHistory-prop names state entries a b = λ i. record {
  legal = IsLegalFrom-prop names (opening names) entries a.legal b.legal i;
  after =
      Coded-set coded_state state (state_after_all names (opening names) entries) a.after b.after i;
}
