-- The forms of the command line. A word is its bytes.
use Rattle.std.specs.Prelude.{ℕ, ◌≡◌, ◌≤◌, ◌<◌, ◌^◌, List, [], ◌∷◌, codes, drop, ◌++◌, length, take}
use Rattle.std.specs.Fmt.{decimal}
use Rattle.market_units.specs.declared.limits.TheConstants.{MAX_ACCEPT, MAX_COURSES, MAX_CREDITS, MAX_SECTIONS, MAX_SESSIONS, MAX_STUDENTS, MAX_WORKERS}
use Rattle.market_units.specs.Name.{name_bytes}
use Rattle.market_words.specs.declared.words.Form.{Form}
use Rattle.market_words.specs.declared.words.Form.TheVariants.{Audit, Check, Demand, Explain, Hall, Make, Prefer, Quote, Run}

-- words that name sessions or streams of requests: 1 to 64
abbrev pub AreSessions : List (List ℕ) → Type 0
AreSessions sessions = (1 ≤ length sessions) × (length sessions ≤ MAX_SESSIONS)

-- a number of workers: 1 to 16
abbrev pub AreWorkers : ℕ → Type 0
AreWorkers workers = (1 ≤ workers) × (workers ≤ MAX_WORKERS)

-- these words ask for this: `quote CAT SES NAME CREDITS COURSES`, `prefer CAT STU SES..`, `demand W
-- CAT STU SET PRICES SES..`, `run W CAT STU SET SES..`, `make W SEED STUDENTS SECTIONS ACCEPT`,
-- `check CAT STU SET TEXT SES..`, `explain CAT STU SET TEXT STUDENT SECTION SES..`, `hall CAT STU
-- TEXT REQ..`, `audit W CAT STU SET TEXT SES..`
abbrev pub HasForm : List (List ℕ) → Form → Type 0
HasForm words (Quote name credits courses) =
    (catalog : List ℕ) × (session : List ℕ)
    × (words
    ≡ codes "quote" ∷ catalog ∷ session ∷ name_bytes name ∷ decimal credits ∷ decimal courses
    ∷ [])
    × (credits ≤ MAX_CREDITS) × (courses ≤ MAX_COURSES)
HasForm words Prefer =
    (catalog : List ℕ) × (roll : List ℕ) × (sessions : List (List ℕ))
    × (words ≡ codes "prefer" ∷ catalog ∷ roll ∷ sessions) × AreSessions sessions
HasForm words (Demand workers) =
    (catalog : List ℕ) × (roll : List ℕ) × (settings : List ℕ) × (prices : List ℕ)
    × (sessions : List (List ℕ))
    × (words ≡ codes "demand" ∷ decimal workers ∷ catalog ∷ roll ∷ settings ∷ prices ∷ sessions)
    × AreWorkers workers × AreSessions sessions
HasForm words (Run workers) =
    (catalog : List ℕ) × (roll : List ℕ) × (settings : List ℕ) × (sessions : List (List ℕ))
    × (words ≡ codes "run" ∷ decimal workers ∷ catalog ∷ roll ∷ settings ∷ sessions)
    × AreWorkers workers × AreSessions sessions
HasForm words (Make workers seed students sections accept) =
    (words
    ≡ codes "make" ∷ decimal workers ∷ decimal seed ∷ decimal students ∷ decimal sections
    ∷ decimal accept ∷ [])
    × AreWorkers workers × (seed < 2 ^ 64) × (1 ≤ students) × (students ≤ MAX_STUDENTS)
    × (1 ≤ sections) × (sections ≤ MAX_SECTIONS) × (accept ≤ MAX_ACCEPT)
HasForm words Check =
    (catalog : List ℕ) × (roll : List ℕ) × (settings : List ℕ) × (text : List ℕ)
    × (sessions : List (List ℕ))
    × (words ≡ codes "check" ∷ catalog ∷ roll ∷ settings ∷ text ∷ sessions) × AreSessions sessions
HasForm words (Explain student section) =
    (catalog : List ℕ) × (roll : List ℕ) × (settings : List ℕ) × (text : List ℕ)
    × (sessions : List (List ℕ))
    × (words
    ≡ codes "explain" ∷ catalog ∷ roll ∷ settings ∷ text ∷ name_bytes student
    ∷ name_bytes section ∷ sessions)
    × AreSessions sessions
HasForm words Hall =
    (catalog : List ℕ) × (roll : List ℕ) × (text : List ℕ) × (requests : List (List ℕ))
    × (words ≡ codes "hall" ∷ catalog ∷ roll ∷ text ∷ requests) × AreSessions requests
HasForm words (Audit workers) =
    (catalog : List ℕ) × (roll : List ℕ) × (settings : List ℕ) × (text : List ℕ)
    × (sessions : List (List ℕ))
    × (words ≡ codes "audit" ∷ decimal workers ∷ catalog ∷ roll ∷ settings ∷ text ∷ sessions)
    × AreWorkers workers × AreSessions sessions

-- these words ask for nothing
abbrev pub HasNoForm : List (List ℕ) → Type 0
HasNoForm words = (form : Form) → ¬ HasForm words form

-- the words that name inputs, in order
abbrev pub inputs_of : Form → List (List ℕ) → List (List ℕ)
inputs_of (Quote name credits courses) words = take 2 (drop 1 words)
inputs_of Prefer words = drop 1 words
inputs_of (Demand workers) words = drop 2 words
inputs_of (Run workers) words = drop 2 words
inputs_of (Make workers seed students sections accept) words = []
inputs_of Check words = drop 1 words
inputs_of (Explain student section) words = take 4 (drop 1 words) ++ drop 7 words
inputs_of Hall words = drop 1 words
inputs_of (Audit workers) words = drop 2 words
