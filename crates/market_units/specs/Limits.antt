-- The limits of a market, as numbers.
use Rattle.std.specs.Prelude.{◌≡◌, pos}
use Rattle.market_units.specs.declared.limits.TheConstants.{MAX_ACCEPT, MAX_ADJUSTMENT, MAX_BASE, MAX_BUDGET, MAX_COMMANDS, MAX_COURSES, MAX_CREDITS, MAX_INPUT_BYTES, MAX_MEETINGS, MAX_NAME, MAX_PAIRS, MAX_PATIENCE, MAX_PRICE, MAX_RAISE, MAX_RATING, MAX_RATINGS, MAX_SEATS, MAX_SECTIONS, MAX_SECTION_CREDITS, MAX_SESSIONS, MAX_SPREAD, MAX_STEP, MAX_STEPS, MAX_STUDENTS, MAX_TABU, MAX_TEXT_BYTES, MAX_TURNS, MAX_VERSIONS, MAX_WORKERS}

-- each limit is this number
pub record AreTheLimits : Type 0 where
  pub students : MAX_STUDENTS ≡ 2000
  pub sections : MAX_SECTIONS ≡ 400
  pub meetings : MAX_MEETINGS ≡ 10
  pub ratings : MAX_RATINGS ≡ 60
  pub pairs : MAX_PAIRS ≡ 200
  pub courses : MAX_COURSES ≡ 8
  pub name : MAX_NAME ≡ 32
  pub seats : MAX_SEATS ≡ 9999
  pub section_credits : MAX_SECTION_CREDITS ≡ 100
  pub base : MAX_BASE ≡ 900000
  pub credits : MAX_CREDITS ≡ 800
  pub rating : MAX_RATING ≡ 100
  pub adjustment : MAX_ADJUSTMENT ≡ pos 200
  pub budget : MAX_BUDGET ≡ 1000000
  pub price : MAX_PRICE ≡ 1000001
  pub spread : MAX_SPREAD ≡ 49
  pub raise : MAX_RAISE ≡ 50
  pub accept : MAX_ACCEPT ≡ 1000000000000
  pub turns : MAX_TURNS ≡ 10000
  pub tabu : MAX_TABU ≡ 1000
  pub patience : MAX_PATIENCE ≡ 10000
  pub steps : MAX_STEPS ≡ 16
  pub step : MAX_STEP ≡ 100000
  pub sessions : MAX_SESSIONS ≡ 64
  pub commands : MAX_COMMANDS ≡ 200000
  pub input_bytes : MAX_INPUT_BYTES ≡ 16777216
  pub text_bytes : MAX_TEXT_BYTES ≡ 67108864
  pub workers : MAX_WORKERS ≡ 16
  pub versions : MAX_VERSIONS ≡ 16
