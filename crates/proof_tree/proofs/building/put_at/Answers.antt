use Rattle.std.proofs.Common.{◌≤◌, ◌-◌, ◌++◌, length, take, refl, ap, ◌∙◌, arith}
use Rattle.std.proofs.lemmas.Slice.{take-put_mid, drop-put_mid}
use Rattle.proof_tree.proofs.building.put_at.Goals as goal

pub returns-clause-some : goal.returns-clause-some
returns-clause-some c =
    let within : c.args.count ≤ length c.args.room.now = c.requires in
    let fits : length c.args.bytes.now ≤ length c.args.room.now - c.args.count = c.if-bytes-room.false in (
      refl,
      omega arith,
      take-put_mid c.args.count _ c.args.room.now c.copy_from_slice.new.self _ (omega arith) c.requires
          ∙ ap (λ bs. take c.args.count c.args.room.now ++ bs) c.copy_from_slice.ensures.after,
      drop-put_mid c.args.count _ c.args.room.now c.copy_from_slice.new.self _ (omega arith) c.requires (omega arith),
    )
