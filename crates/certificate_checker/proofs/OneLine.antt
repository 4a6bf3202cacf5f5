-- A text has one first defect at most.
use Rattle.std.proofs.Common.{ℕ, ◌≡◌, ◌<◌, ◌+◌, ◌⊎◌, ◌∙◌, List, [], ◌∷◌, ◌++◌, length, refl, ap, sym, subst, arith, inl, inr, append_assoc}
use Rattle.std.specs.List.{AllByRecursion}
use Rattle.std.proofs.lemmas.List.{append-nil}
use Rattle.market_certificate.specs.declared.refusals.LineFault.{LineFault}
use Rattle.market_certificate.specs.declared.refusals.LineFault.TheVariants as faults
use Rattle.market_certificate.specs.Finding.{Begins, Finds, Stops}
use Rattle.market_certificate.specs.Lines.{Lacks, joined}
use Rattle.market_certificate.specs.Tables.{Tables, AreTables}
use Rattle.market_certificate.specs.Texts.{ArePublished}
use Rattle.market_certificate.proofs.Cuts.{cut_once, lacks_not}
use Rattle.market_certificate.proofs.Defects.{no_defect, front_of}
use Rattle.market_certificate.proofs.Joins.{joined_append}
use Rattle.market_certificate.proofs.OneText.{lines_lack}

next_lacks : (front more : List (List ℕ)) (line : List ℕ) → AllByRecursion (Lacks 10) (front ++ line ∷ more) → Lacks 10 line
next_lacks [] more line free = free.0
next_lacks (x ∷ front) more line free = next_lacks front more line free.1

-- of two rows of lines in front of one text, one begins the other
split_rows : (front other : List (List ℕ)) (tail rest : List ℕ) → AllByRecursion (Lacks 10) front → AllByRecursion (Lacks 10) other
    → joined front ++ tail ≡ joined other ++ rest
    → ((more : List (List ℕ)) × (other ≡ front ++ more) × (tail ≡ joined more ++ rest))
    ⊎ ((more : List (List ℕ)) × (front ≡ other ++ more) × (rest ≡ joined more ++ tail))
split_rows [] other tail rest free free' e = inl (other, refl, e)
split_rows (x ∷ front) [] tail rest free free' e = inr (x ∷ front, refl, sym e)
split_rows (x ∷ front) (y ∷ other) tail rest free free' e =
    let cut =
    cut_once 10 x y (joined front ++ tail) (joined other ++ rest) free.0 free'.0
    (sym (append_assoc x (10 ∷ joined front) tail) ∙ e ∙ append_assoc y (10 ∷ joined other) rest) in
    elim (split_rows front other tail rest free.1 free'.1 cut.1) [
      | inl longer ↦ inl (longer.0, ap (λ l. l ∷ other) (sym cut.0) ∙ ap (λ ls. x ∷ ls) longer.1, longer.2)
      | inr shorter ↦ inr (shorter.0, ap (λ l. l ∷ front) cut.0 ∙ ap (λ ls. y ∷ ls) shorter.1, shorter.2)
    ]

-- the lines behind a longer front
regrouped : (front more lines : List (List ℕ)) (line : List ℕ) → (front ++ line ∷ more) ++ lines ≡ (front ++ line ∷ []) ++ (more ++ lines)
regrouped front more lines line = append_assoc front (line ∷ more) lines ∙ sym (append_assoc front (line ∷ []) (more ++ lines))

module _ (tables : Tables) (are : AreTables tables) where
  abbrev Is : List (List ℕ) → Type 0
  Is = ArePublished tables

  -- the lines of a publication begin no longer ones
  alone : (lines more : List (List ℕ)) (line : List ℕ) → Is lines → ¬ Is (lines ++ line ∷ more)
  alone lines more line is longer =
      let some : 0 < length (joined (line ∷ more)) = long line (joined more) in
      no_defect tables are (joined (lines ++ line ∷ more)) (longer.0, longer.1, ap joined longer.2) (1 + length lines) faults.Rest
      (record { front = lines; tail = joined (line ∷ more); ahead = joined_append lines (line ∷ more); line = refl; stop = (is, some) })
    where
      long : (xs ys : List ℕ) → 0 < length (xs ++ 10 ∷ ys)
      long [] ys = omega arith
      long (x ∷ xs) ys = omega arith

  -- a text could begin with the lines in front of a defect, and with the next line too unless that is the defect
  begins_of : (front : List (List ℕ)) (tail : List ℕ) (fault : LineFault) → Stops Is front tail fault → Begins Is front
  begins_of front tail faults.Missing stop = (stop.0.0 ∷ stop.0.1, stop.0.2)
  begins_of front tail faults.Form stop = (stop.0.0 ∷ stop.0.1, stop.0.2)
  begins_of front tail faults.Rest stop = ([], subst Is (sym (append-nil front)) stop.0)

  lacks_of : (front : List (List ℕ)) → Begins Is front → AllByRecursion (Lacks 10) front
  lacks_of front begins = front_of front begins.0 (subst (AllByRecursion (Lacks 10)) (sym begins.1.2) (lines_lack tables are begins.1.0 begins.1.1))

  -- where reading stops, no text goes on with the next line
  not_longer : (front more : List (List ℕ)) (line tail rest : List ℕ) (fault : LineFault) → Stops Is front tail fault → tail ≡ joined (line ∷ more) ++ rest
      → ¬ Begins Is (front ++ line ∷ more)
  not_longer front more line tail rest faults.Missing stop e begins =
      lacks_not 10 line (joined more ++ rest) (subst (Lacks 10) (e ∙ append_assoc line (10 ∷ joined more) rest) stop.1)
  not_longer front more line tail rest faults.Form stop e begins =
      let out = stop.1 in
      let free : Lacks 10 line = next_lacks front more line (lacks_of (front ++ line ∷ more) begins) in
      let cut = cut_once 10 out.line line out.rest (joined more ++ rest) out.whole free (sym out.next ∙ e ∙ append_assoc line (10 ∷ joined more) rest) in
      let next : Is ((front ++ line ∷ []) ++ (more ++ begins.0)) = subst Is (regrouped front more begins.0 line) begins.1 in
      out.form (more ++ begins.0, subst (λ (l : List ℕ). Is ((front ++ l ∷ []) ++ (more ++ begins.0))) (sym cut.0) next)
  not_longer front more line tail rest faults.Rest stop e begins =
      alone front (more ++ begins.0) line stop.0 (subst Is (append_assoc front (line ∷ more) begins.0) begins.1)

  -- behind the same lines one fault stops it
  one_fault : (front : List (List ℕ)) (tail : List ℕ) (one other : LineFault) → Stops Is front tail one → Stops Is front tail other → one ≡ other
  one_fault front tail faults.Missing faults.Missing first second = refl
  one_fault front tail faults.Missing faults.Form first second = absurd (lacks_not 10 second.1.line second.1.rest (subst (Lacks 10) second.1.next first.1))
  one_fault front tail faults.Missing faults.Rest first second = absurd (alone front first.0.1 first.0.0 second.0 first.0.2)
  one_fault front tail faults.Form faults.Missing first second = absurd (lacks_not 10 first.1.line first.1.rest (subst (Lacks 10) first.1.next second.1))
  one_fault front tail faults.Form faults.Form first second = refl
  one_fault front tail faults.Form faults.Rest first second = absurd (alone front first.0.1 first.0.0 second.0 first.0.2)
  one_fault front tail faults.Rest faults.Missing first second = absurd (alone front second.0.1 second.0.0 first.0 second.0.2)
  one_fault front tail faults.Rest faults.Form first second = absurd (alone front second.0.1 second.0.0 first.0 second.0.2)
  one_fault front tail faults.Rest faults.Rest first second = refl

  -- where one front begins the other, they are one
  one_stop : (front other more : List (List ℕ)) (tail rest : List ℕ) (fault what : LineFault) → Stops Is front tail fault → Stops Is other rest what
      → other ≡ front ++ more → tail ≡ joined more ++ rest
      → (length front ≡ length other) × (fault ≡ what)
  one_stop front other [] tail rest fault what first second longer e =
      let same : other ≡ front = longer ∙ append-nil front in (
        ap (λ (ls : List (List ℕ)). length ls) (sym same),
        one_fault front tail fault what first (subst (λ t. Stops Is front t what) (sym e) (subst (λ ls. Stops Is ls rest what) same second)),
      )
  one_stop front other (line ∷ more) tail rest fault what first second longer e =
      absurd (not_longer front more line tail rest fault first e (subst (Begins Is) longer (begins_of other rest what second)))

  pub one_line : (text : List ℕ) (at place : ℕ) (fault what : LineFault) → Finds Is 1 text at fault → Finds Is 1 text place what → (at ≡ place) × (fault ≡ what)
  one_line text at place fault what first second =
      let free = lacks_of first.front (begins_of first.front first.tail fault first.stop) in
      let free' = lacks_of second.front (begins_of second.front second.tail what second.stop) in
      let line = first.line in
      let other = second.line in
      elim (split_rows first.front second.front first.tail second.tail free free' (sym first.ahead ∙ second.ahead)) [
        | inl longer ↦
            let same = one_stop first.front second.front longer.0 first.tail second.tail fault what first.stop second.stop longer.1 longer.2 in
            let long = same.0 in
            ((let e : at ≡ place = omega arith in e), same.1)
        | inr shorter ↦
            let same = one_stop second.front first.front shorter.0 second.tail first.tail what fault second.stop first.stop shorter.1 shorter.2 in
            let long = same.0 in
            ((let e : at ≡ place = omega arith in e), sym same.1)
      ]
