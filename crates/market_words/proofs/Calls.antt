-- The calls of forms whose inputs stand behind one another.
use Rattle.std.proofs.Common.{ℕ, ◌≡◌, List, ◌∷◌, ap, drop, subst, sym}
use Rattle.std.specs.Fmt.{decimal}
use Rattle.std.specs.Prelude.{codes}
use Rattle.market_words.specs.declared.call.Call.{Call}
use Rattle.market_words.specs.declared.words.Form.{Form}
use Rattle.market_words.specs.declared.words.Form.TheVariants.{Audit, Check, Demand, Hall, Prefer, Run}
use Rattle.market_words.specs.Forms.{AreSessions, AreWorkers}
use Rattle.market_words.specs.Inputs.{IsCall, NamesInputs}
use Rattle.market_words.proofs.WordLists.{four_named, three_named, two_named}

module _ (words : List (List ℕ)) (call : Call) where
  pub prefer_call : NamesInputs words Prefer 2 call → AreSessions (drop 2 words) → IsCall (codes "prefer" ∷ words) call.form call
  prefer_call is are =
      let all = two_named words are in
      subst (λ (form : Form). IsCall (codes "prefer" ∷ words) form call) (sym is.form_is) (record {
        has = (all.0, all.1, all.2, ap (λ (ws : List (List ℕ)). codes "prefer" ∷ ws) all.3, all.4);
        named = is.named;
        front_long = is.front_long;
        some = λ _. is.some;
      })

  pub hall_call : NamesInputs words Hall 3 call → AreSessions (drop 3 words) → IsCall (codes "hall" ∷ words) call.form call
  hall_call is are =
      let all = three_named words are in
      subst (λ (form : Form). IsCall (codes "hall" ∷ words) form call) (sym is.form_is) (record {
        has = (all.0, all.1, all.2, all.3, ap (λ (ws : List (List ℕ)). codes "hall" ∷ ws) all.4, all.5);
        named = is.named;
        front_long = is.front_long;
        some = λ _. is.some;
      })

  pub check_call : NamesInputs words Check 4 call → AreSessions (drop 4 words) → IsCall (codes "check" ∷ words) call.form call
  check_call is are =
      let all = four_named words are in
      subst (λ (form : Form). IsCall (codes "check" ∷ words) form call) (sym is.form_is) (record {
        has = (all.0, all.1, all.2, all.3, all.4, ap (λ (ws : List (List ℕ)). codes "check" ∷ ws) all.5, all.6);
        named = is.named;
        front_long = is.front_long;
        some = λ _. is.some;
      })

  -- a number of workers, and inputs behind it
  module _ (whole : List (List ℕ)) (workers : ℕ) (first : whole ≡ decimal workers ∷ words) (are_workers : AreWorkers workers) where
    pub run_call : NamesInputs words (Run workers) 3 call → AreSessions (drop 3 words) → IsCall (codes "run" ∷ whole) call.form call
    run_call is are =
        let all = three_named words are in
        subst (λ (form : Form). IsCall (codes "run" ∷ whole) form call) (sym is.form_is)
        (subst (λ (ws : List (List ℕ)). IsCall (codes "run" ∷ ws) (Run workers) call) (sym first) (record {
          has = (all.0, all.1, all.2, all.3, ap (λ (ws : List (List ℕ)). codes "run" ∷ decimal workers ∷ ws) all.4, are_workers, all.5);
          named = is.named;
          front_long = is.front_long;
          some = λ _. is.some;
        }))

    pub demand_call : NamesInputs words (Demand workers) 4 call → AreSessions (drop 4 words) → IsCall (codes "demand" ∷ whole) call.form call
    demand_call is are =
        let all = four_named words are in
        subst (λ (form : Form). IsCall (codes "demand" ∷ whole) form call) (sym is.form_is)
        (subst (λ (ws : List (List ℕ)). IsCall (codes "demand" ∷ ws) (Demand workers) call) (sym first) (record {
          has = (all.0, all.1, all.2, all.3, all.4, ap (λ (ws : List (List ℕ)). codes "demand" ∷ decimal workers ∷ ws) all.5, are_workers, all.6);
          named = is.named;
          front_long = is.front_long;
          some = λ _. is.some;
        }))

    pub audit_call : NamesInputs words (Audit workers) 4 call → AreSessions (drop 4 words) → IsCall (codes "audit" ∷ whole) call.form call
    audit_call is are =
        let all = four_named words are in
        subst (λ (form : Form). IsCall (codes "audit" ∷ whole) form call) (sym is.form_is)
        (subst (λ (ws : List (List ℕ)). IsCall (codes "audit" ∷ ws) (Audit workers) call) (sym first) (record {
          has = (all.0, all.1, all.2, all.3, all.4, ap (λ (ws : List (List ℕ)). codes "audit" ∷ decimal workers ∷ ws) all.5, are_workers, all.6);
          named = is.named;
          front_long = is.front_long;
          some = λ _. is.some;
        }))
