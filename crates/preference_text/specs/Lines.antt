-- The lines of a journal and of preferences.
use Rattle.std.specs.Prelude.{ℕ, ℤ, List, [], ◌∷◌, ◌++◌, codes}
use Rattle.std.specs.Fmt.{decimal, signed_decimal}
use Rattle.std.specs.List.{join_with_byte}
use Rattle.utility_language.specs.Commands.{printed}
use Rattle.preference_desk.specs.declared.entry.Entry.{Entry}
use Rattle.preference_desk.specs.declared.reply.Reply.{Reply}
use Rattle.preference_desk.specs.declared.reply.Reply.TheVariants as reply

-- words as a line: one space between each two, and a line feed at the end
abbrev pub spaced_line : List (List ℕ) → List ℕ
spaced_line words = join_with_byte 32 words ++ 10 ∷ []

-- a reply as it is written
abbrev pub reply_word : Reply → List ℕ
reply_word reply.Unreadable = codes "unreadable"
reply_word reply.Closed = codes "closed"
reply_word reply.NoStudent = codes "no-student"
reply_word reply.NoSection = codes "no-section"
reply_word reply.SamePair = codes "same-pair"
reply_word reply.OutOfRange = codes "out-of-range"
reply_word reply.TooMany = codes "too-many"
reply_word reply.Done = codes "done"

-- the line of an entry: its session, its reply and its command
abbrev pub entry_line : Entry → List ℕ
entry_line entry = spaced_line (codes "entry" ∷ decimal entry.session ∷ reply_word entry.reply ∷ printed entry.command ∷ [])

-- the line of a rating: the names of the student and of the section, and the rating
abbrev pub rating_line : List ℕ → List ℕ → ℕ → List ℕ
rating_line student section rating = spaced_line (codes "rate" ∷ student ∷ section ∷ decimal rating ∷ [])

-- the line of an adjustment: the names of the student and of the two sections, and the adjustment
abbrev pub adjustment_line : List ℕ → List ℕ → List ℕ → ℤ → List ℕ
adjustment_line student first second n = spaced_line (codes "pair" ∷ student ∷ first ∷ second ∷ signed_decimal n ∷ [])
