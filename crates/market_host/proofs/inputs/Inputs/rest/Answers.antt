use Rattle.std.proofs.Common.{◌≡◌, ◌+◌, ◌++◌, ◌∙◌, [], ◌∷◌, ap, arith, length, refl}
use Rattle.std.specs.Vec.{vec_len}
use Rattle.std.proofs.lemmas.List.{length-append}
use Rattle.std.proofs.lemmas.Result.{err_from_is_err_and}
use Rattle.market_units.specs.Totals.{total}
use Rattle.market_units.proofs.Sums.{total-append}
use Rattle.market_words.specs.declared.call.Call.{Call}
use Rattle.market_host.specs.declared.inputs.Inputs.{Inputs}
use Rattle.market_host.specs.Taking.{behind}
use Rattle.market_host.proofs.Cursor.{all_read, memory_behind}
use Rattle.market_host.proofs.Rest.{none_so_far, one_more, room_left, stands_behind}
use Rattle.market_host.proofs.inputs.Inputs.rest.Goals as goal

pub streams-init : goal.streams-init
streams-init g c = record {
  place = omega arith;
  call = refl;
  many = rw c.new-lists.ensures.items refl;
  room = rw c.new-lists.ensures.items refl;
  read = λ form names texts start front has.
      rw c.new-lists.ensures.items (none_so_far g.H.Shelf form names texts g.S.StreamItem.is_item_of start c.args.self.now c.args.shelf.now has);
}

pub streams-preserved : goal.streams-preserved
streams-preserved g c =
    let before = c.streams.invariant in
    let moved : c.stream.new.self ≡ behind c.streams.self 1 = c.in_ok-stream.ensures.moved in
    let read : c.stream.new.self.read ≡ c.streams.self.read + 1 = ap (λ (i : Inputs). i.read) moved in
    let last : total vec_len (c.in_ok-stream.stream ∷ []) ≡ vec_len c.in_ok-stream.stream = omega arith in
    record {
      place = omega (arith, before.place, read);
      call = ap (λ (i : Inputs). i.call) moved ∙ before.call;
      many = rw c.in_ok-push.ensures.items (omega (arith, before.many, length-append c.streams.lists.items (c.in_ok-stream.stream ∷ [])));
      room =
          rw c.in_ok-push.ensures.items (omega (
            arith,
            before.room,
            total-append vec_len c.streams.lists.items (c.in_ok-stream.stream ∷ []),
            last,
            c.in_ok-stream.ensures.few,
            c.len.ensures,
            c.in_ok-stream.stream.ok.0,
          ));
      read = λ form names texts start front has.
          let so_far = before.read form names texts start front has in
          let one =
          c.in_ok-stream.ensures.taken form names (texts ++ so_far.0) start
          (stands_behind g.H.Shelf form names texts g.S.StreamItem.is_item_of start c.streams.self c.streams.lists.items c.streams.room c.streams.shelf so_far front)
          (room_left g.H.Shelf form names texts g.S.StreamItem.is_item_of start c.streams.self c.streams.lists.items c.streams.room c.streams.shelf so_far front)
          so_far.1 in
          rw c.in_ok-push.ensures.items
          (one_more g.H.Shelf form names texts g.S.StreamItem.is_item_of start c.streams.self c.streams.lists.items c.streams.room c.streams.shelf so_far front
          c.stream.new.self c.in_ok-stream.stream _ c.stream.new.shelf one (omega (arith, c.in_ok-stream.ensures.few, c.len.ensures, c.in_ok-stream.stream.ok.0)));
    }

pub returns-in_err-stream : goal.returns-in_err-stream
returns-in_err-stream g c =
    let p = err_from_is_err_and c.from_residual.result c.from_residual.ensures.1 in
    rw (p.1, p.2) (λ form names texts start front has.
    let so_far = c.streams.invariant.read form names texts start front has in
    c.in_err-stream.ensures.taken form names (texts ++ so_far.0) start
    (stands_behind g.H.Shelf form names texts g.S.StreamItem.is_item_of start c.streams.self c.streams.lists.items c.streams.room c.streams.shelf so_far front)
    (room_left g.H.Shelf form names texts g.S.StreamItem.is_item_of start c.streams.self c.streams.lists.items c.streams.room c.streams.shelf so_far front)
    so_far.1)

pub returns-in_err-push : goal.returns-in_err-push
returns-in_err-push g c =
    let p = err_from_is_err_and c.from_residual-in_err-push.result c.from_residual-in_err-push.ensures.1 in
    rw (p.1, p.2) (λ form names texts start front has.
    let so_far = c.streams.invariant.read form names texts start front has in
    let one =
    c.in_ok-stream.ensures.taken form names (texts ++ so_far.0) start
    (stands_behind g.H.Shelf form names texts g.S.StreamItem.is_item_of start c.streams.self c.streams.lists.items c.streams.room c.streams.shelf so_far front)
    (room_left g.H.Shelf form names texts g.S.StreamItem.is_item_of start c.streams.self c.streams.lists.items c.streams.room c.streams.shelf so_far front)
    so_far.1 in
    memory_behind g.H.Shelf form names ((texts ++ so_far.0) ++ one.0 ∷ []) c.stream.new.self start c.stream.new.shelf one.1)

pub returns : goal.returns
returns g c = λ form names texts start front has.
    let last = c.streams.invariant in
    let so_far = last.read form names texts start front has in
    let fronts : length c.streams.self.call.front.now ≡ length c.args.self.now.call.front.now = ap (λ (call : Call). length call.front.now) last.call in
    let streams : length c.streams.self.call.streams.now ≡ length c.args.self.now.call.streams.now = ap (λ (call : Call). length call.streams.now) last.call in (
      so_far.0,
      all_read g.H.Shelf form names (texts ++ so_far.0) c.streams.self start c.streams.shelf so_far.1
          (omega (arith, last.place, c.requires.front, fronts, streams)),
      so_far.2,
    )
