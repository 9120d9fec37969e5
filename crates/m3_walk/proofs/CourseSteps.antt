-- Several reductions one after another: what is due of them, and the sizes of what they leave.
use Rattle.std.proofs.Common.{◌≡◌, ◌∙◌, ◌==◌, ℕ, suc, true, false, List, [], ◌∷◌, ◌++◌, map, length, refl, sym, ap, subst, arith}
use Rattle.std.proofs.lemmas.List.{append_assoc, append-nil}
use Rattle.std.proofs.lemmas.Bool.{eqb-true}
use Rattle.batch_laws.specs.Batch.{zeros}
use Rattle.cube_laws.proofs.Weights.{length-tabulate}
use Rattle.sumcheck.specs.declared.entry.Entry.{Entry}
use Rattle.walk_chain.specs.Chain.{Suits, plan_of}
use Rattle.channel_products.specs.declared.flushed.Flushed.{Flushed}
use Rattle.bit_claim.specs.Batching.{BitValue}
use Rattle.m3_walk.specs.declared.stage.Stage.{Stage}
use Rattle.m3_walk.specs.declared.product.Product.{Product}
use Rattle.m3_walk.specs.Kept.{Packed}
use Rattle.m3_walk.specs.Linked.{HasRoom, Takes, linking}
use Rattle.m3_walk.specs.Linking.{Place, Sizes, blank, blank_claim, place_of, plan_with, sizes, sizes_after}

-- ---- from some sizes on
abbrev pub sizes_through : Sizes → List Stage → Sizes
sizes_through k [] = k
sizes_through k (g ∷ gs) = sizes_through (sizes_after g k) gs

abbrev pub SuitsThrough : Sizes → List Stage → Type 0
SuitsThrough k [] = Unit {0}
SuitsThrough k (g ∷ gs) = HasRoom k × (Takes g k × SuitsThrough (sizes_after g k) gs)

-- these are due, those sizes are left, and each can be entered when its turn comes
pub record Goes (k : Sizes) (gs : List Stage) (es : List Entry) (m : Sizes) : Type 0 where
  pub due : plan_of linking k gs ≡ es
  pub leads : sizes_through k gs ≡ m
  pub suits : SuitsThrough k gs

plan_append : (k : Sizes) (gs hs : List Stage) → plan_of linking k (gs ++ hs) ≡ plan_of linking k gs ++ plan_of linking (sizes_through k gs) hs
plan_append k [] hs = refl
plan_append k (g ∷ gs) hs = ap (λ es. plan_with g k ++ es) (plan_append (sizes_after g k) gs hs) ∙ sym (append_assoc (plan_with g k) _ _)

through_append : (k : Sizes) (gs hs : List Stage) → sizes_through k (gs ++ hs) ≡ sizes_through (sizes_through k gs) hs
through_append k [] hs = refl
through_append k (g ∷ gs) hs = through_append (sizes_after g k) gs hs

suits_append : (k : Sizes) (gs hs : List Stage) → SuitsThrough k gs → SuitsThrough (sizes_through k gs) hs → SuitsThrough k (gs ++ hs)
suits_append k [] hs s t = t
suits_append k (g ∷ gs) hs s t = (s.0, (s.1.0, suits_append (sizes_after g k) gs hs s.1.1 t))

suits_to_the_last : (k : Sizes) (gs : List Stage) → SuitsThrough k gs → HasRoom (sizes_through k gs) → Suits linking k gs
suits_to_the_last k [] s r = r
suits_to_the_last k (g ∷ gs) s r = (s.0, (s.1.0, suits_to_the_last (sizes_after g k) gs s.1.1 r))

pub none_go : (k : Sizes) → Goes k [] [] k
none_go k = record { due = refl; leads = refl; suits = tt }

pub one_goes : (g : Stage) (k m : Sizes) (es : List Entry) → HasRoom k → Takes g k → plan_with g k ≡ es → sizes_after g k ≡ m → Goes k (g ∷ []) es m
one_goes g k m es r t p s = record { due = append-nil (plan_with g k) ∙ p; leads = s; suits = (r, (t, tt)) }

pub then_go : {k l m : Sizes} {gs hs : List Stage} {es fs : List Entry} → Goes k gs es l → Goes l hs fs m → Goes k (gs ++ hs) (es ++ fs) m
then_go {k = k} {gs = gs} {hs = hs} {es = es} a b = record {
  due = plan_append k gs hs ∙ (λ i. a.due i ++ plan_of linking (a.leads i) hs) ∙ ap (λ x. es ++ x) b.due;
  leads = through_append k gs hs ∙ ap (λ x. sizes_through x hs) a.leads ∙ b.leads;
  suits = suits_append k gs hs a.suits (subst (λ x. SuitsThrough x hs) (sym a.leads) b.suits);
}

-- the same with entries, or sizes, that are equal
pub same_due : {k m : Sizes} {gs : List Stage} {es fs : List Entry} → es ≡ fs → Goes k gs es m → Goes k gs fs m
same_due {k = k} {m = m} {gs = gs} e g = subst (λ x. Goes k gs x m) e g

pub same_left : {k m n : Sizes} {gs : List Stage} {es : List Entry} → m ≡ n → Goes k gs es m → Goes k gs es n
same_left {k = k} {gs = gs} {es = es} e g = subst (λ x. Goes k gs es x) e g

pub all_suit : (k m : Sizes) (gs : List Stage) (es : List Entry) → Goes k gs es m → HasRoom m → Suits linking k gs
all_suit k m gs es g r = suits_to_the_last k gs g.suits (subst HasRoom (sym g.leads) r)

-- ---- numbers that differ
pub unequal : (a b : ℕ) → (a ≡ b → ⊥) → (a == b) ≡ false
unequal a b h = elim (a == b) as (λ t. (a == b) ≡ t → t ≡ false) [ true ↦ λ e. absurd (h (eqb-true a b e)) | false ↦ λ e. refl ] refl

pub not_none : (n : ℕ) → (suc n == 0) ≡ false
not_none n = unequal (suc n) 0 (λ e. omega arith)

-- ---- claims of given sizes
blank_points : (ns : List ℕ) → map (λ (b : BitValue). length b.point) (map (λ n. record { blocks = []; point = zeros n; value = 0 }) ns) ≡ ns
blank_points [] = refl
blank_points (n ∷ ns) = (λ i. length-tabulate n (λ p. 0) i ∷ blank_points ns i)

blank_words : (ns : List ℕ) → map (λ (p : Packed). length p.point) (map (λ n. record { blocks = []; point = zeros n; value = 0 }) ns) ≡ ns
blank_words [] = refl
blank_words (n ∷ ns) = (λ i. length-tabulate n (λ p. 0) i ∷ blank_words ns i)

pub blank_flushes : (fs : List Flushed) → map (λ (p : Product). p.flushed) (map (λ (f : Flushed). record { flushed = f; alpha = 0; gamma = 0; value = 0 }) fs) ≡ fs
blank_flushes [] = refl
blank_flushes (f ∷ fs) = ap (λ l. f ∷ l) (blank_flushes fs)

pub blank_places : (ps : List Place) → map place_of (map blank_claim ps) ≡ ps
blank_places [] = refl
blank_places (p ∷ ps) = (λ i. record { table = p.table; column = p.column; vars = length-tabulate p.vars (λ p. 0) i } ∷ blank_places ps i)

pub blank_sizes : (k : Sizes) → sizes (blank k) ≡ k
blank_sizes k = (λ i. record { products = blank_flushes k.products i; columns = blank_places k.columns i; bits = blank_points k.bits i; packed = blank_words k.packed i; room = k.room })
