-- Of two sets one stands first by the names of their members.
use Rattle.std.proofs.Common.{◌≡◌, ◌<◌, ◌≤◌, ◌⊎◌, ℕ, true, false, List, [], ◌∷◌, inl, inr, sym, ◌∙◌, subst, ap, arith}
use Rattle.std.proofs.lemmas.Bool.{cases_Bool, cases_lt, cases_order, true≢false}
use Rattle.market_units.specs.Members.{has}
use Rattle.bundle_rules.specs.Sets.{IsAscending, DiffersFirstIn}
use Rattle.bundle_rules.specs.Existence.Members.{has-here, has-there, has-cases}
use Rattle.bundle_rules.specs.Existence.Orders.{differ}
use Rattle.demand_oracle.specs.Names.{StandsFirst}

module _ (name : ℕ → ℕ) where
  pub not_before_itself : (a : List ℕ) → StandsFirst name a a → ⊥
  not_before_itself a first = true≢false (sym first.1 ∙ first.2)

  pub before_trans : (a b c : List ℕ) → StandsFirst name a b → StandsFirst name b c → StandsFirst name a c
  before_trans a b c p q = elim (cases_lt (name q.0) (name p.0)) [
    | inl second ↦
        let in_a : has a q.0 ≡ true = elim (cases_Bool (has a q.0)) [
          | inl is ↦ is
          | inr lacks ↦ absurd (let later : name p.0 < name q.0 = p.3 q.0 q.1 lacks in omega arith)
        ] in (
          q.0,
          in_a,
          q.2,
          λ t is lacks. elim (cases_Bool (has b t)) [
            | inl both ↦ (let later : name p.0 < name t = p.3 t both lacks in omega arith)
            | inr neither ↦ q.3 t is neither
          ],
        )
    | inr first ↦
        let not_in_c : has c p.0 ≡ false = elim (cases_Bool (has c p.0)) [
          | inl is ↦ absurd (let later : name q.0 < name p.0 = q.3 p.0 is p.2 in omega arith)
          | inr lacks ↦ lacks
        ] in (
          p.0,
          p.1,
          not_in_c,
          λ t is lacks. elim (cases_Bool (has b t)) [
            | inl both ↦ p.3 t both lacks
            | inr neither ↦ (let later : name q.0 < name t = q.3 t is neither in omega arith)
          ],
        )
  ]

  -- a member of the first that the second lacks, of which none has an earlier name
  pub record IsEarliest (a b : List ℕ) (s : ℕ) : Type 0 where
    pub member : has a s ≡ true
    pub lacks : has b s ≡ false
    pub first : (t : ℕ) → has a t ≡ true → has b t ≡ false → name s ≤ name t

  pub earliest : (a b : List ℕ) → ((s : ℕ) → has a s ≡ true → has b s ≡ true) ⊎ ((s : ℕ) × IsEarliest a b s)
  earliest [] b = inl (λ s is. absurd (true≢false (sym is)))
  earliest (x ∷ xs) b = elim (cases_Bool (has b x)) [
    | inl both ↦ elim (earliest xs b) [
      | inl all ↦ inl (λ s is. elim (has-cases x xs s is) [ inl here ↦ subst (λ t. has b t ≡ true) here both | inr there ↦ all s there ])
      | inr one ↦ inr (
        one.0,
        record {
          member = has-there x xs one.0 one.1.member;
          lacks = one.1.lacks;
          first = λ t is lacks. elim (has-cases x xs t is) [
            | inl here ↦ absurd (true≢false (sym both ∙ ap (has b) here ∙ lacks))
            | inr there ↦ one.1.first t there lacks
          ];
        },
      )
    ]
    | inr alone ↦ elim (earliest xs b) [
      | inl all ↦ inr (
        x,
        record {
          member = has-here x xs;
          lacks = alone;
          first = λ t is lacks. elim (has-cases x xs t is) [
            | inl here ↦ (let same : name x ≡ name t = ap name here in omega arith)
            | inr there ↦ absurd (true≢false (sym (all t there) ∙ lacks))
          ];
        },
      )
      | inr one ↦ elim (cases_lt (name one.0) (name x)) [
        | inl low ↦ inr (
          one.0,
          record {
            member = has-there x xs one.0 one.1.member;
            lacks = one.1.lacks;
            first = λ t is lacks. elim (has-cases x xs t is) [
              | inl here ↦ (let same : name x ≡ name t = ap name here in omega arith)
              | inr there ↦ one.1.first t there lacks
            ];
          },
        )
        | inr high ↦ inr (
          x,
          record {
            member = has-here x xs;
            lacks = alone;
            first = λ t is lacks. elim (has-cases x xs t is) [
              | inl here ↦ (let same : name x ≡ name t = ap name here in omega arith)
              | inr there ↦ (let later : name one.0 ≤ name t = one.1.first t there lacks in omega arith)
            ];
          },
        )
      ]
    ]
  ]

  -- two sets are equal, or one stands first, where no member of one has the name of another of the other
  pub one_before : (a b : List ℕ) → IsAscending a → IsAscending b
      → ((s t : ℕ) → has a s ≡ true → has b t ≡ true → name s ≡ name t → s ≡ t)
      → (a ≡ b) ⊎ (StandsFirst name a b ⊎ StandsFirst name b a)
  one_before a b up up' apart = elim (earliest a b) [
    | inl within ↦ elim (earliest b a) [
      | inl within' ↦ elim (differ a b up up') [
        | inl same ↦ inl same
        | inr (inl d) ↦ absurd (true≢false (sym (within d.0 d.1) ∙ d.2))
        | inr (inr d) ↦ absurd (true≢false (sym (within' d.0 d.1) ∙ d.2))
      ]
      | inr two ↦ inr (inr (two.0, two.1.member, two.1.lacks, λ t is lacks. absurd (true≢false (sym (within t is) ∙ lacks))))
    ]
    | inr one ↦ elim (earliest b a) [
      | inl within' ↦ inr (inl (one.0, one.1.member, one.1.lacks, λ t is lacks. absurd (true≢false (sym (within' t is) ∙ lacks))))
      | inr two ↦ elim (cases_order (name one.0) (name two.0)) [
        | inl same ↦
            absurd (true≢false (sym two.1.member ∙ ap (has b) (sym (apart one.0 two.0 one.1.member two.1.member same)) ∙ one.1.lacks))
        | inr (inl below) ↦
            inr (inl (one.0, one.1.member, one.1.lacks, λ t is lacks. (let later : name two.0 ≤ name t = two.1.first t is lacks in omega arith)))
        | inr (inr above) ↦
            inr (inr (two.0, two.1.member, two.1.lacks, λ t is lacks. (let later : name one.0 ≤ name t = one.1.first t is lacks in omega arith)))
      ]
    ]
  ]

-- where each is called by its own number, the lowest on which they differ is in the one that stands first
pub lowest_first : (a b : List ℕ) → IsAscending a → IsAscending b → StandsFirst (λ s. s) a b → DiffersFirstIn a b
lowest_first a b up up' first = elim (differ a b up up') [
  | inl same ↦ absurd (true≢false (sym first.1 ∙ ap (λ l. has l first.0) same ∙ first.2))
  | inr (inl d) ↦ d
  | inr (inr d) ↦
      let later : first.0 < d.0 = first.3 d.0 d.1 d.2 in
      absurd (true≢false (sym first.1 ∙ sym (d.3 first.0 later) ∙ first.2))
]
