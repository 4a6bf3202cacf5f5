-- What a round asks: its tasks, and the right answer to each.
use Rattle.std.specs.Prelude.{ℕ, ◌*◌, ◌==◌, ◌&&◌, Bool, true, false, Option, None, Some, List, [], ◌∷◌, length, slice_index_or}
use Rattle.bundle_rules.specs.Demand.{price_in}
use Rattle.demand_api.specs.Crowds.{demand_of as crowd_demand, count}
use Rattle.price_board.specs.declared.round.Task.{Task}
use Rattle.price_board.specs.declared.terms.Terms.{Terms}
use Rattle.price_board.specs.Tasks.{taken_at}

-- how many students there are
abbrev pub student_count : Terms → ℕ
student_count terms = length terms.crowd.students

-- how many versions there are
abbrev pub version_count : Terms → ℕ
version_count terms = length terms.versions

-- how many tasks there are: one for each student and version, or those of this list
abbrev pub count_in : Option (List Task) → Terms → ℕ
count_in None terms = version_count terms * student_count terms
count_in (Some list) terms = length list

-- how many tasks there are
abbrev pub task_count : Terms → ℕ
task_count terms = count_in terms.list terms

-- the prices of a version
abbrev pub prices_of : Terms → ℕ → ℕ → ℕ
prices_of terms version = price_in (slice_index_or terms.versions version [])

-- what a student takes at the prices of a version
abbrev pub demand_of : Terms → ℕ → ℕ → List ℕ
demand_of terms version student = crowd_demand terms.crowd (prices_of terms version) student

-- what the student of a task takes at the prices of the task
abbrev pub demand_at : Terms → Task → List ℕ
demand_at terms task = taken_at terms.crowd terms.versions task

-- how many students take a section at the prices of a version
abbrev pub count_of : Terms → ℕ → ℕ → ℕ
count_of terms version section = count terms.crowd (prices_of terms version) section

-- the same sections
abbrev pub same_sections : List ℕ → List ℕ → Bool
same_sections [] [] = true
same_sections [] (t ∷ ts) = false
same_sections (s ∷ ss) [] = false
same_sections (s ∷ ss) (t ∷ ts) = s == t && same_sections ss ts
