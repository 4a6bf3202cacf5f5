-- Names tell their sections, and a bundle's text tells the bundle.
use Rattle.std.proofs.Common.{ℕ, zero, suc, ◌≡◌, ◌≢◌, ◌==◌, ◌<◌, ◌+◌, false, List, [], ◌∷◌, ◌++◌, length, length-append, map, take, get_or, ap, sym, refl, subst, arith, ◌∙◌}
use Rattle.std.specs.Prelude.{All, IsTrue, Option, None}
use Rattle.std.specs.Iterator.{Yields}
use Rattle.std.specs.List.{AllByRecursion, IsDistinct, join_with_byte, slice_split, take-map}
use Rattle.std.specs.Str.{bytes_eq}
use Rattle.std.proofs.lemmas.Bool.{ne_eqb}
use Rattle.std.proofs.lemmas.Iterator.{YieldsList}
use Rattle.std.proofs.lemmas.Iterator.Consumers.{YieldsList-end, YieldsList-so_far}
use Rattle.std.proofs.lemmas.List.{append_cancel_left, get_or-map, length-map, take_more}
use Rattle.std.proofs.lemmas.List.Elements.{All-head, All-tail, All-take}
use Rattle.std.proofs.lemmas.Slice.Eq.{bytes_eq-Decides}
use Rattle.market_units.specs.Names.{IsName, is_name_byte}
use Rattle.bundle_rules.specs.Sets.{IsAscending}
use Rattle.bundle_rules.specs.Ordinals.{IsBundle}
use Rattle.market_certificate.specs.Lines.{Lacks}
use Rattle.market_certificate.specs.Tables.{AreNames, name_at}
use Rattle.market_certificate.specs.Publications.{IsBundleOf}
use Rattle.market_certificate.specs.Texts.{bundle_text}
use Rattle.market_certificate.proofs.Cuts.{cut_once, joined_lack, parts_of}
use Rattle.bundle_rules.specs.Existence.Members.{IsAscending-front}

-- no name has a byte that names do not have
pub name_lacks : (stop : ℕ) (name : List ℕ) → is_name_byte stop ≡ false → IsName name → Lacks stop name
name_lacks stop name other is k d inside =
    ne_eqb (get_or name k d) stop
    (λ e. let byte : IsTrue (is_name_byte stop) = subst (λ (b : ℕ). IsTrue (is_name_byte b)) e (is.each k d inside) in absurd (cc (other, byte)))

first_differs : (x : List ℕ) (xs : List (List ℕ)) (k : ℕ) → AllByRecursion (λ y. bytes_eq x y ≡ false) xs → k < length xs → x ≢ name_at xs k
first_differs x [] k apart inside e = absurd (omega arith)
first_differs x (y ∷ xs) zero apart inside e = let same = (bytes_eq-Decides x y).1 e in cc (same, apart.0)
first_differs x (y ∷ xs) (suc k) apart inside e = first_differs x xs k apart.1 (omega arith) e

-- different places have different names
pub different : (names : List (List ℕ)) (a b : ℕ) → IsDistinct bytes_eq names → a < length names → b < length names → name_at names a ≡ name_at names b → a ≡ b
unfolding IsDistinct
different [] a b distinct inside inside' e = absurd (omega arith)
different (x ∷ xs) zero zero distinct inside inside' e = refl
different (x ∷ xs) zero (suc b) distinct inside inside' e = absurd (first_differs x xs b distinct.0 (omega arith) e)
different (x ∷ xs) (suc a) zero distinct inside inside' e = absurd (first_differs x xs a distinct.0 (omega arith) (sym e))
different (x ∷ xs) (suc a) (suc b) distinct inside inside' e = ap suc (different xs a b distinct.1 (omega arith) (omega arith) e)

-- names tell the sections whose they are
pub same_sections : (names : List (List ℕ)) (a b : List ℕ) → AreNames names → All (λ s. s < length names) a → All (λ s. s < length names) b
    → map (name_at names) a ≡ map (name_at names) b → a ≡ b
same_sections names [] [] are below below' e = refl
same_sections names [] (y ∷ b) are below below' e = absurd (omega (arith, ap length e))
same_sections names (x ∷ a) [] are below below' e = absurd (omega (arith, ap length e))
same_sections names (x ∷ a) (y ∷ b) are below below' e =
    let P : ℕ → Type 0 = λ s. s < length names in
    let heads : name_at names x ≡ name_at names y = ap (λ l. get_or l 0 []) e in
    let tails : map (name_at names) a ≡ map (name_at names) b = cc e in
    let one = different names x y are.distinct (All-head P x a below) (All-head P y b below') heads in
    ap (λ s. s ∷ a) one ∙ ap (λ ss. y ∷ ss) (same_sections names a b are (All-tail P x a below) (All-tail P y b below') tails)

pub named : (names : List (List ℕ)) (s : ℕ) → AreNames names → s < length names → IsName (name_at names s)
named names s are inside = are.each s [] inside

pub names_lack : (stop : ℕ) (names : List (List ℕ)) (bundle : List ℕ) → is_name_byte stop ≡ false → AreNames names → All (λ s. s < length names) bundle
    → AllByRecursion (Lacks stop) (map (name_at names) bundle)
names_lack stop names [] other are below = tt
names_lack stop names (s ∷ bundle) other are below =
    let P : ℕ → Type 0 = λ s. s < length names in (
      name_lacks stop (name_at names s) other (named names s are (All-head P s bundle below)),
      names_lack stop names bundle other are (All-tail P s bundle below),
    )

some_text : (names : List (List ℕ)) (s : ℕ) (bundle : List ℕ) → AreNames names → s < length names → join_with_byte 44 (map (name_at names) (s ∷ bundle)) ≢ []
some_text names s [] are inside e = absurd (omega (arith, ap length e, (named names s are inside).some))
some_text names s (t ∷ bundle) are inside e =
    absurd (omega (arith, ap length e, length-append (name_at names s) (44 ∷ join_with_byte 44 (map (name_at names) (t ∷ bundle)))))

-- the parts of a bundle's names
pub parts_are : (names : List (List ℕ)) (bundle text : List ℕ) → AreNames names → All (λ s. s < length names) bundle → text ≢ []
    → text ≡ join_with_byte 44 (map (name_at names) bundle)
    → slice_split (λ b. b == 44) text ≡ map (name_at names) bundle
parts_are names [] text are below some e = absurd (some e)
parts_are names (s ∷ bundle) text are below some e =
    ap (slice_split (λ b. b == 44)) e ∙ parts_of 44 (name_at names s) (map (name_at names) bundle) (names_lack 44 names (s ∷ bundle) refl are below)

-- one text of names is one bundle
pub same_joined : (names : List (List ℕ)) (a b : List ℕ) → AreNames names → All (λ s. s < length names) a → All (λ s. s < length names) b
    → join_with_byte 44 (map (name_at names) a) ≡ join_with_byte 44 (map (name_at names) b) → a ≡ b
same_joined names [] [] are below below' e = refl
same_joined names [] (y ∷ b) are below below' e = absurd (some_text names y b are (All-head (λ s. s < length names) y b below') (sym e))
same_joined names (x ∷ a) b are below below' e =
    let some = some_text names x a are (All-head (λ s. s < length names) x a below) in
    same_sections names (x ∷ a) b are below below' (
    sym (parts_are names (x ∷ a) (join_with_byte 44 (map (name_at names) (x ∷ a))) are below some refl)
    ∙ parts_are names b (join_with_byte 44 (map (name_at names) (x ∷ a))) are below' some e
    )

pub same_bundle : (names : List (List ℕ)) (a b : List ℕ) → AreNames names → IsBundleOf names a → IsBundleOf names b → bundle_text names a ≡ bundle_text names b
    → a ≡ b
same_bundle names a b are is is' e =
    let inner = cut_once 93 (join_with_byte 44 (map (name_at names) a)) (join_with_byte 44 (map (name_at names) b)) [] []
    (joined_lack 44 93 (map (name_at names) a) refl (names_lack 93 names a refl are is.of_catalog))
    (joined_lack 44 93 (map (name_at names) b) refl (names_lack 93 names b refl are is'.of_catalog))
    (append_cancel_left (91 ∷ []) _ _ e) in
    same_joined names a b are is.of_catalog is'.of_catalog inner.0

take_drop : {X : Type 0} (k : ℕ) (xs : List X) → (tail : List X) × (xs ≡ take k xs ++ tail)
take_drop zero xs = (xs, refl)
take_drop (suc k) [] = ([], refl)
take_drop (suc k) (x ∷ xs) = let more = take_drop k xs in (more.0, ap (λ l. x ∷ l) more.1)

pub bundle_front : (k : ℕ) (bundle : List ℕ) → IsBundle bundle → IsBundle (take k bundle)
bundle_front k bundle is =
    let cut = take_drop k bundle in
    let both = length-append (take k bundle) cut.0 in
    record { few = omega (arith, is.few, ap length cut.1, both); ascending = IsAscending-front (take k bundle) cut.0 (subst IsAscending cut.1 is.ascending) }

-- What the parts tell that were read, where the text is that of another bundle: that bundle begins with the sections so far, and goes on with
-- a section of the next part's name.
pub record GoesOnWith (names : List (List ℕ)) (so_far : List ℕ) (next : List ℕ) (bundle : List ℕ) : Type 0 where
  pub section : ℕ
  pub inside : section < length names
  pub is_named : name_at names section ≡ next
  pub front : take (length so_far + 1) bundle ≡ so_far ++ section ∷ []

pub goes_on : (names : List (List ℕ)) (text : List ℕ) (yielded : List (List ℕ)) (so_far : List ℕ) (next : List ℕ) (bundle : List ℕ) → AreNames names → text ≢ []
    → All (λ s. s < length names) so_far
    → yielded ≡ map (name_at names) so_far → yielded ≡ take (length yielded) (slice_split (λ b. b == 44) text)
    → length yielded < length (slice_split (λ b. b == 44) text)
    → next ≡ get_or (slice_split (λ b. b == 44) text) (length yielded) next → IsBundleOf names bundle → text ≡ join_with_byte 44 (map (name_at names) bundle)
    → GoesOnWith names so_far next bundle
goes_on names text yielded so_far next bundle are some below read front inside here is e =
    let parts = parts_are names bundle text are is.of_catalog some e in
    let k = length so_far in
    let count : length yielded ≡ k = ap length read ∙ length-map so_far (name_at names) in
    let within : k < length bundle = omega (arith, ap length parts, length-map bundle (name_at names), count) in
    let section = get_or bundle k 0 in
    let P : ℕ → Type 0 = λ s. s < length names in
    let same_front : map (name_at names) so_far ≡ map (name_at names) (take k bundle) =
    sym read ∙ front ∙ ap (λ n. take n (slice_split (λ b. b == 44) text)) count ∙ ap (take k) parts ∙ take-map (name_at names) k bundle in
    let so = same_sections names so_far (take k bundle) are below (All-take P k bundle is.of_catalog) same_front in
    record {
      section = section;
      inside = is.of_catalog k 0 within;
      is_named =
          sym
          (here ∙ ap (λ ps. get_or ps (length yielded) next) parts ∙ ap (λ n. get_or (map (name_at names) bundle) n next) count
          ∙ get_or-map (name_at names) bundle k 0 next within);
      front = take_more bundle k 0 within ∙ ap (λ xs. xs ++ section ∷ []) (sym so);
    }

-- the parts so far, and at the end all of them; the iterator's own facts first
pub parts_so_far : {S A B : Type 0} {steps : S → Option A → S → Type 0} {v : A → B} {s : S} {all : List B} (xs : List A) (t : S) (y : Yields steps s xs t)
    → YieldsList steps v s all → map v xs ≡ take (length xs) all
parts_so_far xs t y e = YieldsList-so_far e xs t y

pub all_parts : {S A B : Type 0} {steps : S → Option A → S → Type 0} {v : A → B} {s : S} {all : List B} (xs : List A) (t : S) (y : Yields steps s xs t)
    → (r : Option A) (u : S) → r ≡ None → steps t r u → YieldsList steps v s all → map v xs ≡ all
all_parts xs t y r u is step e = (YieldsList-end e xs t y r u is step).0

-- the same of the items of a loop
pub goes_on_with : {A : Type 0} (now : A → List ℕ) (names : List (List ℕ)) (text : List ℕ) (items : List A) (so_far : List ℕ) (next : List ℕ) (bundle : List ℕ)
    → AreNames names → text ≢ [] → All (λ s. s < length names) so_far
    → map now items ≡ map (name_at names) so_far → map now items ≡ take (length items) (slice_split (λ b. b == 44) text)
    → length items < length (slice_split (λ b. b == 44) text)
    → next ≡ get_or (slice_split (λ b. b == 44) text) (length items) next → IsBundleOf names bundle → text ≡ join_with_byte 44 (map (name_at names) bundle)
    → GoesOnWith names so_far next bundle
goes_on_with now names text items so_far next bundle are some below read front inside here =
    let parts = slice_split (λ b. b == 44) text in
    let long = length-map items now in
    goes_on names text (map now items) so_far next bundle are some below read (front ∙ ap (λ n. take n parts) (sym long)) (omega (arith, inside, long))
    (here ∙ ap (λ n. get_or parts n next) (sym long))

-- a section of the next part's name can be put behind the sections so far
pub goes_on_fits : (names : List (List ℕ)) (so_far : List ℕ) (next : List ℕ) (bundle : List ℕ) (section : ℕ) → AreNames names
    → GoesOnWith names so_far next bundle → IsBundleOf names bundle → section < length names → name_at names section ≡ next
    → IsBundle (so_far ++ section ∷ [])
goes_on_fits names so_far next bundle section are goes is inside e =
    let same = different names goes.section section are.distinct goes.inside inside (goes.is_named ∙ sym e) in
    subst (λ s. IsBundle (so_far ++ s ∷ [])) same (subst IsBundle goes.front (bundle_front (length so_far + 1) bundle is.is_bundle))
