use Rattle.std.proofs.Common.{◌++◌, ◌∷◌, ◌∙◌, ap}
use Rattle.market_units.specs.Name.{name_bytes}
use Rattle.student_roll.specs.Students.{names_of}
use Rattle.dropadd_hall.proofs.LineJoins.{waiting_written}
use Rattle.dropadd_hall.proofs.lines.put_waiting.Goals as goal

pub returns : goal.returns
returns c =
    waiting_written (names_of c.args.roll.now.students) (name_bytes c.args.section.now) c.args.waiting.now c.args.text.now.items
    c.extend_from_slice.new.self.items c.put_field.new.text.items c.put_students.new.text.items c.push.new.self.items
    c.in_ok-extend_from_slice.ensures.items (c.in_ok-put_field.ensures ∙ ap (λ f. c.extend_from_slice.new.self.items ++ 32 ∷ f) c.bytes.ensures.value)
    c.in_ok-put_students.ensures c.in_ok-push.ensures.items
