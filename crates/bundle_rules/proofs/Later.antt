-- The sections of later places.
use Rattle.std.proofs.Common.{◌≡◌, ◌<◌, ◌≤◌, ◌-◌, ◌++◌, ℕ, List, [], ◌∷◌, length, get_or, take, drop, map, refl, arith, ap, subst, append_assoc}
use Rattle.plain_facts.proofs.Lists.{first_rest}
use Rattle.bundle_rules.specs.declared.menu.Rated.{Rated}
use Rattle.bundle_rules.specs.Sets.{IsAscending}
use Rattle.bundle_rules.specs.Existence.Members.{IsAscending-front, IsAscending-middle}

abbrev pub no_place : Rated
no_place = record { section = record { 0 = 0 }; course = 0; rating = 0; credits = 0 }

abbrev pub sections : List Rated → List ℕ
sections later = map (λ rated. rated.section.0) later

module _ (front : List ℕ) (later : List Rated) (some : 1 ≤ length later) (up : IsAscending (front ++ sections later)) where
  pub first_later : IsAscending (front ++ (get_or later 0 no_place).section.0 ∷ sections (take (length later - 1) (drop 1 later)))
  first_later = subst (λ (more : List Rated). IsAscending (front ++ sections more)) (first_rest later no_place some) up

  -- the later ones without the first
  pub ascending-rest : IsAscending (front ++ sections (take (length later - 1) (drop 1 later)))
  ascending-rest = IsAscending-middle front (get_or later 0 no_place).section.0 _ first_later

  -- the first of them after the front
  pub ascending-wider : IsAscending ((front ++ (get_or later 0 no_place).section.0 ∷ []) ++ sections (take (length later - 1) (drop 1 later)))
  ascending-wider = rw append_assoc first_later

  pub ascending-first : IsAscending (front ++ (get_or later 0 no_place).section.0 ∷ [])
  ascending-first = IsAscending-front _ (sections (take (length later - 1) (drop 1 later))) ascending-wider

  -- the later sections are the first and the rest
  pub later_split : sections later ≡ (get_or later 0 no_place).section.0 ∷ sections (take (length later - 1) (drop 1 later))
  later_split = ap sections (first_rest later no_place some)

pub no_later : (later : List Rated) → length later < 1 → sections later ≡ []
no_later [] none = refl
no_later (x ∷ xs) none = absurd (omega arith)
