-- What the terms of a check, and what is checked by them, are seen as.
use Rattle.demand_api.specs.Views.{data_of}
use Rattle.market_certificate.specs.Publications.{Publication}
use Rattle.market_certificate.specs.Views.{publication_of}
use Rattle.certificate_checker.specs.declared.printed.Printed.{Printed}
use Rattle.certificate_checker.specs.declared.terms.Terms as declared
use Rattle.certificate_checker.specs.Terms.{TermsData}

-- the crowd, the seats and the raise as plain data
abbrev pub terms_of : declared.Terms → TermsData
terms_of terms =
    record {
      crowd = data_of terms.crowd;
      seats = terms.seats.items;
      raise = terms.raise;
    }

-- by what a printed publication is checked
abbrev pub terms_seen : Printed → TermsData
terms_seen printed = terms_of printed.terms.now

-- the publication that is printed
abbrev pub printed_in : Printed → Publication
printed_in printed = publication_of printed.publication.now
