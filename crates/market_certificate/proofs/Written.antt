-- The parts of a text, written one behind another.
use Rattle.std.proofs.Common.{ℕ, ◌≡◌, List, [], ◌∷◌, ◌++◌, map, ap, sym, ◌∙◌, append_assoc}
use Rattle.market_certificate.specs.declared.amounts.Amount.TheVariants as kinds
use Rattle.market_certificate.specs.Lines.{joined}
use Rattle.market_certificate.specs.Tables.{Tables}
use Rattle.market_certificate.specs.Publications.{Publication}
use Rattle.market_certificate.specs.Texts.{amount_line, bundle_line, each_line, end_line, error_line, final_line, head_line, order_line, text_of, turn_line, used_line}
use Rattle.market_certificate.proofs.Joins.{joined_append}

-- a whole text, seen from before its last parts
before_line : (text new line whole : List ℕ) (more : List (List ℕ)) → new ≡ (text ++ line) ++ 10 ∷ [] → whole ≡ new ++ joined more
    → whole ≡ text ++ joined (line ∷ more)
before_line text new line whole more e so =
    so ∙ ap (λ t. t ++ joined more) e ∙ append_assoc (text ++ line) (10 ∷ []) (joined more) ∙ append_assoc text line (10 ∷ joined more)

before_lines : (text new whole : List ℕ) (lines more : List (List ℕ)) → new ≡ text ++ joined lines → whole ≡ new ++ joined more
    → whole ≡ text ++ joined (lines ++ more)
before_lines text new whole lines more e so =
    so ∙ ap (λ t. t ++ joined more) e ∙ append_assoc text (joined lines) (joined more) ∙ ap (λ t. text ++ t) (sym (joined_append lines more))

pub text_written : (tables : Tables) (p : Publication) (t0 t1 t2 t3 t4 t5 t6 t7 t8 t9 t10 t11 : List ℕ) → t0 ≡ [] → t1 ≡ (t0 ++ head_line tables) ++ 10 ∷ []
    → t2 ≡ (t1 ++ order_line p.order) ++ 10 ∷ []
    → t3 ≡ t2 ++ joined (each_line (amount_line kinds.Budget) tables.students p.budgets)
    → t4 ≡ t3 ++ joined (each_line (amount_line kinds.Start) tables.sections p.start) → t5 ≡ (t4 ++ error_line p.error) ++ 10 ∷ []
    → t6 ≡ t5 ++ joined (each_line (amount_line kinds.Price) tables.sections p.prices)
    → t7 ≡ t6 ++ joined (each_line (bundle_line tables.sections) tables.students p.bundles)
    → t8 ≡ t7 ++ joined (map (turn_line tables.students tables.sections) p.turns)
    → t9 ≡ t8 ++ joined (each_line (final_line tables.sections) tables.students p.allocation)
    → t10 ≡ t9 ++ joined (each_line used_line tables.sections p.used) → t11 ≡ t10 ++ joined (end_line ∷ []) → t11 ≡ text_of tables p
text_written tables p t0 t1 t2 t3 t4 t5 t6 t7 t8 t9 t10 t11 e0 e1 e2 e3 e4 e5 e6 e7 e8 e9 e10 e11 =
    let b9 = before_lines t9 t10 t11 (each_line used_line tables.sections p.used) (end_line ∷ []) e10 e11 in
    let b8 =
    before_lines t8 t9 t11 (each_line (final_line tables.sections) tables.students p.allocation) (each_line used_line tables.sections p.used ++ end_line ∷ [])
    e9 b9 in
    let b7 =
    before_lines t7 t8 t11 (map (turn_line tables.students tables.sections) p.turns)
    (each_line (final_line tables.sections) tables.students p.allocation ++ (each_line used_line tables.sections p.used ++ end_line ∷ [])) e8 b8 in
    let b6 =
    before_lines t6 t7 t11 (each_line (bundle_line tables.sections) tables.students p.bundles)
    (map (turn_line tables.students tables.sections) p.turns
    ++ (each_line (final_line tables.sections) tables.students p.allocation ++ (each_line used_line tables.sections p.used ++ end_line ∷ [])))
    e7 b7 in
    let b5 =
    before_lines t5 t6 t11 (each_line (amount_line kinds.Price) tables.sections p.prices)
    (each_line (bundle_line tables.sections) tables.students p.bundles
    ++ (map (turn_line tables.students tables.sections) p.turns
    ++ (each_line (final_line tables.sections) tables.students p.allocation ++ (each_line used_line tables.sections p.used ++ end_line ∷ []))))
    e6 b6 in
    let b4 =
    before_line t4 t5 (error_line p.error) t11
    (each_line (amount_line kinds.Price) tables.sections p.prices
    ++ (each_line (bundle_line tables.sections) tables.students p.bundles
    ++ (map (turn_line tables.students tables.sections) p.turns
    ++ (each_line (final_line tables.sections) tables.students p.allocation
    ++ (each_line used_line tables.sections p.used ++ end_line ∷ [])))))
    e5 b5 in
    let b3 =
    before_lines t3 t4 t11 (each_line (amount_line kinds.Start) tables.sections p.start)
    (error_line p.error
    ∷ (each_line (amount_line kinds.Price) tables.sections p.prices
    ++ (each_line (bundle_line tables.sections) tables.students p.bundles
    ++ (map (turn_line tables.students tables.sections) p.turns
    ++ (each_line (final_line tables.sections) tables.students p.allocation
    ++ (each_line used_line tables.sections p.used ++ end_line ∷ []))))))
    e4 b4 in
    let b2 =
    before_lines t2 t3 t11 (each_line (amount_line kinds.Budget) tables.students p.budgets)
    (each_line (amount_line kinds.Start) tables.sections p.start
    ++ (error_line p.error
    ∷ (each_line (amount_line kinds.Price) tables.sections p.prices
    ++ (each_line (bundle_line tables.sections) tables.students p.bundles
    ++ (map (turn_line tables.students tables.sections) p.turns
    ++ (each_line (final_line tables.sections) tables.students p.allocation
    ++ (each_line used_line tables.sections p.used ++ end_line ∷ [])))))))
    e3 b3 in
    let b1 =
    before_line t1 t2 (order_line p.order) t11
    (each_line (amount_line kinds.Budget) tables.students p.budgets
    ++ (each_line (amount_line kinds.Start) tables.sections p.start
    ++ (error_line p.error
    ∷ (each_line (amount_line kinds.Price) tables.sections p.prices
    ++ (each_line (bundle_line tables.sections) tables.students p.bundles
    ++ (map (turn_line tables.students tables.sections) p.turns
    ++ (each_line (final_line tables.sections) tables.students p.allocation
    ++ (each_line used_line tables.sections p.used ++ end_line ∷ []))))))))
    e2 b2 in
    let b0 =
    before_line t0 t1 (head_line tables) t11
    (order_line p.order
    ∷ (each_line (amount_line kinds.Budget) tables.students p.budgets
    ++ (each_line (amount_line kinds.Start) tables.sections p.start
    ++ (error_line p.error
    ∷ (each_line (amount_line kinds.Price) tables.sections p.prices
    ++ (each_line (bundle_line tables.sections) tables.students p.bundles
    ++ (map (turn_line tables.students tables.sections) p.turns
    ++ (each_line (final_line tables.sections) tables.students p.allocation
    ++ (each_line used_line tables.sections p.used ++ end_line ∷ [])))))))))
    e1 b1 in
    b0 ∙ ap (λ t. t ++ text_of tables p) e0

-- what was put behind a text, by other names of its parts
pub same_parts : {A B C : Type 0} (put : A → B → C → List ℕ) (a a' : A) (b b' : B) (c c' : C) (text new : List ℕ) → a' ≡ a → b' ≡ b → c' ≡ c
    → new ≡ text ++ put a' b' c' → new ≡ text ++ put a b c
same_parts put a a' b b' c c' text new e e' e'' is = is ∙ ap (λ x. text ++ put x b' c') e ∙ ap (λ x. text ++ put a x c') e' ∙ ap (λ x. text ++ put a b x) e''
