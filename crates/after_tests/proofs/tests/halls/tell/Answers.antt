use Rattle.std.proofs.Common.{slice_index_or, subst}
use Rattle.dropadd_desk.specs.Market.{Market}
use Rattle.dropadd_desk.specs.Replies.{NamesInRange}
use Rattle.after_tests.proofs.tests.halls.tell.Goals as goal

pub put_hall-requires-clause-named : goal.put_hall-requires-clause-named
put_hall-requires-clause-named g c =
    λ k d low. subst (λ (m : Market). NamesInRange m (slice_index_or c.in_ok-hall.hall.journal k d).reply) c.desk_of-desk.ensures.market
    (c.in_ok-hall.ensures.named k d low)
