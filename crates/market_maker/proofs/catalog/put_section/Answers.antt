use Rattle.std.proofs.Common.{◌+◌, ◌/◌, ◌%◌, rules}
use Rattle.std.specs.Fmt.{decimal}
use Rattle.market_maker.specs.Catalogs.{course_name, meeting_of, section_name}
use Rattle.market_maker.proofs.Written.{five_written}
use Rattle.market_maker.proofs.catalog.put_section.Goals as goal

pub returns : goal.returns
returns c =
    five_written (section_name c.args.section) (course_name c.args.section) (decimal (1 + c.args.students / 4)) (decimal (1 + c.args.section % 3))
    (meeting_of c.args.section)
    c.args.text.now.items c.put_name_field.new.text.items c.put_name_field-2.new.text.items c.put_number_field.new.text.items
    c.put_number_field-2.new.text.items c.put_meeting.new.text.items c.push.new.self.items
    c.in_ok-put_name_field.ensures c.in_ok-put_name_field-2.ensures c.in_ok-put_number_field.ensures c.in_ok-put_number_field-2.ensures
    c.in_ok-put_meeting.ensures (search rules)
