use Rattle.std.proofs.Common.{length}
use Rattle.market_certificate.specs.Views.{publication_of}
use Rattle.certificate_checker.specs.Firsts.{AllBelow}
use Rattle.certificate_checker.specs.Parts.{AreHeldOn, IsProgress}
use Rattle.certificate_checker.specs.Turns.{IsRightTurn, held_before}
use Rattle.certificate_checker.specs.Views.{terms_of}
use Rattle.certificate_checker.proofs.turns.check_turns.Given as goal

abbrev pub invariant-turns : goal.invariant-turns
invariant-turns l = record {
  right : AllBelow l.place (IsRightTurn (terms_of l.printed.terms.now) (publication_of l.printed.publication.now));
  progress : IsProgress (length l.printed.terms.now.crowd.menus.items) (publication_of l.printed.publication.now) l.place l.progress;
  floor : AreHeldOn l.printed.terms.now.seats.items (held_before (publication_of l.printed.publication.now) l.place) l.floor;
}
