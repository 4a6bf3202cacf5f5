-- The text of a closed hall.
use Rattle.std.specs.Prelude.{ℕ, ◌+◌, Option, None, Some, List, [], ◌∷◌, ◌++◌, codes, map}
use Rattle.std.specs.List.{flat_map, range_with_len}
use Rattle.std.specs.Fmt.{decimal}
use Rattle.market_units.specs.declared.units.StudentNo.{StudentNo}
use Rattle.student_roll.specs.Students.{names_of}
use Rattle.demand_api.specs.Crowds.{holders}
use Rattle.market_certificate.specs.Lines.{joined, spaced}
use Rattle.course_catalog.specs.Sections.{section_names}
use Rattle.market_certificate.specs.Tables.{name_at}
use Rattle.market_certificate.specs.Texts.{final_line, used_line}
use Rattle.dropadd_desk.specs.declared.reply.HallReply.{HallReply}
use Rattle.dropadd_desk.specs.declared.reply.HallReply.TheVariants as reply
use Rattle.dropadd_desk.specs.declared.shared.HallState.{HallState}
use Rattle.dropadd_desk.specs.Lines.{HallStep}
use Rattle.dropadd_desk.specs.Market.{Market, offered, section_count, student_count}
use Rattle.dropadd_desk.specs.Step.{held_by, waiting_for}
use Rattle.dropadd_hall.specs.Requests.{request_words}

-- the name of a section, and of a student
abbrev pub section_name : Market → ℕ → List ℕ
section_name market s = name_at (section_names market.catalog.sections) s

abbrev pub student_name : Market → ℕ → List ℕ
student_name market i = name_at (names_of market.roll.students) i

-- the fields behind a drop, each behind a space
abbrev pub next_fields : List (List ℕ) → Option StudentNo → List ℕ
next_fields students None = []
next_fields students (Some next) = 32 ∷ codes "to" ++ 32 ∷ name_at students next.0

-- the words behind a drop: who has the section next, where there is one
abbrev pub next_words : Market → Option StudentNo → List (List ℕ)
next_words market None = []
next_words market (Some next) = codes "to" ∷ student_name market next.0 ∷ []

-- the words of a reply
abbrev pub reply_words : Market → HallReply → List (List ℕ)
reply_words market reply.Unreadable = codes "unreadable" ∷ []
reply_words market reply.NoStudent = codes "no-student" ∷ []
reply_words market reply.NoSection = codes "no-section" ∷ []
reply_words market reply.Holding = codes "holding" ∷ []
reply_words market reply.Waiting = codes "waiting" ∷ []
reply_words market (reply.Clash with') = codes "clash" ∷ section_name market with'.0 ∷ []
reply_words market reply.Credits = codes "credits" ∷ []
reply_words market reply.Courses = codes "courses" ∷ []
reply_words market reply.Added = codes "added" ∷ []
reply_words market (reply.Queued ahead) = codes "queued" ∷ decimal ahead ∷ []
reply_words market reply.NotHolding = codes "not-holding" ∷ []
reply_words market (reply.Dropped lapsed next) =
    codes "dropped" ∷ decimal lapsed ∷ next_words market next
reply_words market reply.NotWaiting = codes "not-waiting" ∷ []
reply_words market reply.Left = codes "left" ∷ []

-- the line of a step: its session, numbered from 1, its request and, behind a colon, its reply
abbrev pub entry_line : Market → HallStep → List ℕ
entry_line market step =
    spaced (codes "entry" ∷ decimal (step.seat + 1) ∷ spaced (request_words step.request) ∷ [])
    ++ 58 ∷ 32 ∷ spaced (reply_words market step.reply)

-- the line of what a student holds
abbrev pub held_line : Market → HallState → ℕ → List ℕ
held_line market state i =
    final_line (section_names market.catalog.sections) (student_name market i) (held_by state i)

-- the line of a section for which students wait
abbrev pub wait_line : Market → ℕ → List ℕ → List ℕ
wait_line market s waiting =
    spaced (codes "wait" ∷ section_name market s ∷ map (student_name market) waiting)

-- none where nobody waits
abbrev pub where_any : Market → ℕ → List ℕ → List (List ℕ)
where_any market s [] = []
where_any market s (first ∷ more) = wait_line market s (first ∷ more) ∷ []

-- the lines of a section's waiting list
abbrev pub wait_lines : Market → HallState → ℕ → List (List ℕ)
wait_lines market state s = where_any market s (waiting_for state s)

-- the line of a section's seats: those that are held, and all
abbrev pub seats_line : Market → HallState → ℕ → List ℕ
seats_line market state s =
    used_line (section_name market s) (holders s state.held, (offered market s).seats)

-- The steps; what each student holds after them; who waits for each section; and the seats that are
-- held. Students and sections come in file order.
abbrev pub hall_lines : Market → List HallStep → HallState → List (List ℕ)
hall_lines market history state =
    map (entry_line market) history
    ++ map (held_line market state) (range_with_len 0 (student_count market))
    ++ flat_map (wait_lines market state) (range_with_len 0 (section_count market))
    ++ map (seats_line market state) (range_with_len 0 (section_count market))

abbrev pub hall_text : Market → List HallStep → HallState → List ℕ
hall_text market history state = joined (hall_lines market history state)
