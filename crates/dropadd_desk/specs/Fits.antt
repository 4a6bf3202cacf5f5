-- Whether a section fits what a student holds.
use Rattle.std.specs.Prelude.{ℕ, ◌+◌, Bool, ◌&&◌, not, nat_lt, Option, is_some, List, length}
use Rattle.std.specs.List.{find}
use Rattle.market_units.specs.Totals.{total}
use Rattle.course_catalog.specs.Sections.{sections_clash}
use Rattle.dropadd_desk.specs.Market.{Market, offered, enrolled}

-- the credits of these sections together
abbrev pub credits_of : Market → List ℕ → ℕ
credits_of market sections = total (λ s. (offered market s).credits) sections

-- the lowest section of a set with which the section clashes, where there is one
abbrev pub lowest_clash : Market → ℕ → List ℕ → Option ℕ
lowest_clash market s set = find (λ t. sections_clash market.catalog.sections s t) set

-- with the section the credits exceed the student's cap
abbrev pub exceeds_credits : Market → ℕ → ℕ → List ℕ → Bool
exceeds_credits market i s set =
    nat_lt (enrolled market i).credits (credits_of market set + (offered market s).credits)

-- with one section more there are more than the student's cap
abbrev pub exceeds_courses : Market → ℕ → List ℕ → Bool
exceeds_courses market i set = nat_lt (enrolled market i).courses (length set + 1)

-- The section fits a student who holds these: it clashes with none of them, and with it neither cap
-- is exceeded.
abbrev pub fits : Market → ℕ → ℕ → List ℕ → Bool
fits market i s set =
    not (is_some (lowest_clash market s set)) && not (exceeds_credits market i s set)
    && not (exceeds_courses market i set)
