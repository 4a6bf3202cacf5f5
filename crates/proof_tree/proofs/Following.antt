-- The walk along a text, step by step.
use Rattle.std.proofs.Common.{◌≡◌, ◌≢◌, ◌++◌, ◌↔◌, ℕ, Option, None, List, [], ◌∷◌, refl, sym, subst, inl, inr}
use Rattle.std.specs.Prelude.{IfErr, IsErrAnd, IsOk, OnOk}
use Rattle.std.specs.declared.result.Result.{Result}
use Rattle.std.specs.declared.result.Result.TheVariants.{Ok, Err}
use Rattle.std.proofs.lemmas.Bool.{false≢true}
use Rattle.bundle_bounds.specs.Offers.{OfferData, places_of}
use Rattle.proof_tree.specs.declared.signs.Sign.{Sign}
use Rattle.proof_tree.specs.declared.walk.Step.TheVariants.{Signed, Unsigned}
use Rattle.proof_tree.specs.declared.defects.TreeDefect.{TreeDefect}
use Rattle.proof_tree.specs.declared.defects.TreeDefect.TheVariants.{Syntax, NotClosed, Redundant, WrongLeaf, WrongBranch, Rest}
use Rattle.proof_tree.specs.Texts.{Stands, IsTreeText}
use Rattle.proof_tree.specs.Walks.{HasCome}
use Rattle.proof_tree.specs.Steps.{IsStep}
use Rattle.proof_tree.specs.Defects.{Reads, IsDefect, FirstFailsAt, offset}
use Rattle.proof_tree.specs.Mismatches.{IsMismatch, IsUnsigned, offset_in}
use Rattle.proof_tree.proofs.Uniqueness.{one_sign}
use Rattle.proof_tree.proofs.OneSymbol.{one_symbol}
use Rattle.proof_tree.proofs.Spelling.{comes_more, walk_spells, spelled_text, no_sign}

pub on_ok : {E : Type 0} (r : Result (Unit {0}) E) (P Q : Type 0) → OnOk r P → (P → Q) → OnOk r Q
on_ok (Ok u) P Q is then_ = then_ is
on_ok (Err e) P Q is then_ = is

pub if_err : {E : Type 0} (r : Result (Unit {0}) E) (P Q : E → Type 0) → IfErr r P → ((e : E) → P e → Q e) → IfErr r Q
if_err (Ok u) P Q is then_ = is
if_err (Err e) P Q is then_ = then_ e is

pub ok_iff : {E : Type 0} (r : Result (Unit {0}) E) (P Q : Type 0) (D : E → Type 0) → OnOk r P → IfErr r D → (P → Q) → ((e : E) → D e → Q → ⊥) → IsOk r ↔ Q
ok_iff (Ok u) P Q D is fails to not_both = ((λ ok. to is), (λ q. refl))
ok_iff (Err e) P Q D is fails to not_both = ((λ ok. absurd (false≢true ok)), (λ q. absurd (not_both e fails q)))

pub err_from : {A E : Type 0} (r : Result A E) (e : E) (P : E → Type 0) → IsErrAnd r (λ x. x ≡ e) → P e → IfErr r P
err_from (Ok a) e P is p = absurd is
err_from (Err x) e P is p = subst P (sym is) p

-- where one symbol stands first, no other does
pub other_stuck : (read sign : Sign) (text rest : List ℕ) → Stands read text rest → read ≢ sign → (later : List ℕ) → Stands sign text later → ⊥
other_stuck read sign text rest stands other later stands' = other (one_symbol read sign text rest later stands stands')

-- and where the one that stands is none of canonical trees, none of those does
pub none_reads : (read : Sign) (text rest : List ℕ) → Stands read text rest → (other : Sign) → Reads text other → read ≡ other
none_reads read text rest stands other reads = one_symbol read other text rest reads.1.0 stands reads.1.1

module _ (offer : OfferData) (required : Option ℕ) (champion text : List ℕ) where
  -- the walk begins at the root
  pub come_first : HasCome offer required champion text ((0, []) ∷ []) text
  come_first = ([], (refl, refl))

  module _ (nodes : List (ℕ × List ℕ)) (rest : List ℕ) (come : HasCome offer required champion text nodes rest) where
    -- and goes on where the symbol of the canonical sign stands
    pub come_more : (sign : Sign) (others : List (ℕ × List ℕ)) (later : List ℕ)
        → IsStep offer required (places_of offer.menu champion) nodes (Signed sign) others → Stands sign rest later
        → HasCome offer required champion text others later
    come_more sign others later step stands =
        let here = subst (λ ns. HasCome offer required champion text ns rest) step.1.1 come in
        subst (λ ns. HasCome offer required champion text ns later) (sym step.1.3) (
          here.0 ++ sign ∷ [],
          comes_more offer required (places_of offer.menu champion) here.0 ((0, []) ∷ []) text step.0 step.1.0 rest sign later here.1 step.1.2 stands,
        )

    -- it ends with the tree's text
    pub text_where_ended : nodes ≡ [] → rest ≡ [] → IsTreeText offer required champion text
    text_where_ended ended none =
        let here = subst (λ r. HasCome offer required champion text [] r) none (subst (λ ns. HasCome offer required champion text ns rest) ended come) in
        spelled_text offer required champion text (walk_spells offer required (places_of offer.menu champion) here.0 ((0, []) ∷ []) text here.1)

    -- or with bytes behind it
    pub fails_where_ended : (at : ℕ) → nodes ≡ [] → rest ≢ [] → at ≡ offset text rest → FirstFailsAt offer required champion text at
    fails_where_ended at ended some is = ([], (rest, subst (λ ns. HasCome offer required champion text ns rest) ended come, is, some))

    -- or at a node with no canonical sign
    pub fails_unsigned : (at : ℕ) (others : List (ℕ × List ℕ)) → IsStep offer required (places_of offer.menu champion) nodes Unsigned others
        → at ≡ offset text rest → FirstFailsAt offer required champion text at
    fails_unsigned at others step is = (
      step.0 ∷ step.1.0,
      (
        rest,
        subst (λ ns. HasCome offer required champion text ns rest) step.1.1 come,
        is,
        λ sign later has. absurd (no_sign offer required (places_of offer.menu champion) step.0.0 step.0.1 step.1.0 sign step.1.2 has),
      ),
    )

    -- or at one whose symbol does not stand
    pub fails_signed : (at : ℕ) (sign : Sign) (others : List (ℕ × List ℕ)) → IsStep offer required (places_of offer.menu champion) nodes (Signed sign) others
        → ((later : List ℕ) → ¬ Stands sign rest later) → at ≡ offset text rest
        → FirstFailsAt offer required champion text at
    fails_signed at sign others step stuck is = (
      step.0 ∷ step.1.0,
      (
        rest,
        subst (λ ns. HasCome offer required champion text ns rest) step.1.1 come,
        is,
        λ other later has stands. stuck later
            (subst (λ s. Stands s rest later) (one_sign offer required (places_of offer.menu champion) step.0.0 step.0.1 other sign has step.1.2) stands),
      ),
    )

module _ (offer : OfferData) (champion text : List ℕ) (nodes : List (ℕ × List ℕ)) (rest : List ℕ) (come : HasCome offer None champion text nodes rest) where
  -- the defect by what is wrong at the node
  pub defect_unsigned : (defect : TreeDefect) (others : List (ℕ × List ℕ)) → IsStep offer None (places_of offer.menu champion) nodes Unsigned others
      → IsUnsigned rest defect → offset_in defect ≡ offset text rest → IsDefect offer champion text defect
  defect_unsigned (Syntax at) others step unsigned is =
      (step.0.0, (step.0.1, (step.1.0, (rest, subst (λ ns. HasCome offer None champion text ns rest) step.1.1 come, is, unsigned))))
  defect_unsigned (NotClosed at) others step unsigned is =
      (step.0.0, (step.0.1, (step.1.0, (rest, subst (λ ns. HasCome offer None champion text ns rest) step.1.1 come, is, inl (unsigned, step.1.2)))))
  defect_unsigned (Redundant at) others step unsigned is = absurd unsigned
  defect_unsigned (WrongLeaf at) others step unsigned is = absurd unsigned
  defect_unsigned (WrongBranch at) others step unsigned is = absurd unsigned
  defect_unsigned (Rest at) others step unsigned is = absurd unsigned

  pub defect_signed : (defect : TreeDefect) (sign : Sign) (others : List (ℕ × List ℕ))
      → IsStep offer None (places_of offer.menu champion) nodes (Signed sign) others → IsMismatch sign rest defect → offset_in defect ≡ offset text rest
      → IsDefect offer champion text defect
  defect_signed (Syntax at) sign others step wrong is =
      (step.0.0, (step.0.1, (step.1.0, (rest, subst (λ ns. HasCome offer None champion text ns rest) step.1.1 come, is, wrong))))
  defect_signed (NotClosed at) sign others step wrong is = (
    step.0.0,
    (
      step.0.1,
      (
        step.1.0,
        (
          rest,
          subst (λ ns. HasCome offer None champion text ns rest) step.1.1 come,
          is,
          inr (wrong.0, wrong.1, (sign, step.1.2, wrong.2, wrong.3)),
        ),
      ),
    ),
  )
  defect_signed (Redundant at) sign others step wrong is = (
    step.0.0,
    (
      step.0.1,
      (
        step.1.0,
        (rest, subst (λ ns. HasCome offer None champion text ns rest) step.1.1 come, is, (wrong.0, wrong.1, (sign, step.1.2, wrong.2, wrong.3))),
      ),
    ),
  )
  defect_signed (WrongLeaf at) sign others step wrong is = (
    step.0.0,
    (
      step.0.1,
      (
        step.1.0,
        (rest, subst (λ ns. HasCome offer None champion text ns rest) step.1.1 come, is, (wrong.0, wrong.1, (sign, step.1.2, wrong.2, wrong.3))),
      ),
    ),
  )
  defect_signed (WrongBranch at) sign others step wrong is = (
    step.0.0,
    (
      step.0.1,
      (
        step.1.0,
        (rest, subst (λ ns. HasCome offer None champion text ns rest) step.1.1 come, is, (wrong.0, wrong.1, (sign, step.1.2, wrong.2, wrong.3))),
      ),
    ),
  )
  defect_signed (Rest at) sign others step wrong is = absurd wrong.3

  pub defect_where_ended : (at : ℕ) → nodes ≡ [] → rest ≢ [] → at ≡ offset text rest → IsDefect offer champion text (Rest at)
  defect_where_ended at ended some is = (rest, subst (λ ns. HasCome offer None champion text ns rest) ended come, some, is)
