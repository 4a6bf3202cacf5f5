-- Publications, and their ranges.
use Rattle.std.specs.Prelude.{ℕ, ◌≡◌, ◌<◌, ◌≤◌, ◌^◌, List, All, length}
use Rattle.market_units.specs.declared.limits.TheConstants.{MAX_BUDGET, MAX_PRICE, MAX_SEATS, MAX_SESSIONS}
use Rattle.bundle_rules.specs.Ordinals.{IsBundle}
use Rattle.proof_tree.specs.Alphabets.{AreTreeBytes}
use Rattle.market_certificate.specs.Tables.{Tables}

-- a bundle with its tree
pub record Proved : Type 0 where
  pub bundle : List ℕ
  pub tree : List ℕ

-- a turn of the aftermarket: its pass, its student, and the bundle that the student then has, with
-- its tree
pub record ProvedTurn : Type 0 where
  pub pass : ℕ
  pub student : ℕ
  pub bundle : List ℕ
  pub tree : List ℕ

-- the session of each journal entry; each student's budget; each section's price that the search
-- found, and the clearing error; each section's price in the second stage; each student's bundle at
-- these prices; the turns of the aftermarket; each student's bundle after them; of each section how
-- many seats are used, and how many there are
pub record Publication : Type 0 where
  pub order : List ℕ
  pub budgets : List ℕ
  pub start : List ℕ
  pub error : ℕ
  pub prices : List ℕ
  pub bundles : List Proved
  pub turns : List ProvedTurn
  pub allocation : List (List ℕ)
  pub used : List (ℕ × ℕ)

-- the number of a session
pub record IsSession (session : ℕ) : Type 0 where
  pub least : 1 ≤ session
  pub most : session ≤ MAX_SESSIONS

-- at most 8 sections of a catalogue with these names, strictly ascending
pub record IsBundleOf (sections : List (List ℕ)) (bundle : List ℕ) : Type 0 where
  pub is_bundle : IsBundle bundle
  pub of_catalog : All (λ section. section < length sections) bundle

-- a bundle of the catalogue, and bytes of a tree, whatever it proves
pub record IsProved (sections : List (List ℕ)) (proved : Proved) : Type 0 where
  pub bundle : IsBundleOf sections proved.bundle
  pub tree : AreTreeBytes proved.tree

-- a turn of a pass from 1, of a student of the roll, with such a bundle and tree
pub record IsTurn (students sections : List (List ℕ)) (turn : ProvedTurn) : Type 0 where
  pub least : 1 ≤ turn.pass
  pub most : turn.pass < 2 ^ 64
  pub student : turn.student < length students
  pub bundle : IsBundleOf sections turn.bundle
  pub tree : AreTreeBytes turn.tree

-- seats that are used, and seats
pub record IsUsed (seats : ℕ × ℕ) : Type 0 where
  pub used : seats.0 ≤ MAX_SEATS
  pub all : seats.1 ≤ MAX_SEATS

-- one value for each of the names, each of this kind
pub record AreFor {V : Type 0} (names : List (List ℕ)) (P : V → Type 0)
    (values : List V) : Type 0 where
  pub count : length values ≡ length names
  pub each : All P values

-- a publication of these tables, in the ranges of the text
pub record IsPublication (tables : Tables) (p : Publication) : Type 0 where
  pub order : All IsSession p.order
  pub budgets : AreFor tables.students (λ budget. budget ≤ MAX_BUDGET) p.budgets
  pub start : AreFor tables.sections (λ price. price ≤ MAX_PRICE) p.start
  pub error : p.error < 2 ^ 64
  pub prices : AreFor tables.sections (λ price. price ≤ MAX_PRICE) p.prices
  pub bundles : AreFor tables.students (IsProved tables.sections) p.bundles
  pub turns : All (IsTurn tables.students tables.sections) p.turns
  pub allocation : AreFor tables.students (IsBundleOf tables.sections) p.allocation
  pub used : AreFor tables.sections IsUsed p.used
