-- Steps of the walk.
use Rattle.std.proofs.Common.{◌≡◌, ◌∙◌, ℕ, zero, suc, ◌<◌, ◌≤◌, List, [], ◌∷◌, length, get_or, Some, refl, sym, ap, subst, arith}
use Rattle.std.specs.List.{slice_get}
use Rattle.list_laws.proofs.Lists.{item_here}
use Rattle.sumcheck.specs.Claim as claim
use Rattle.sumcheck.specs.Claim.{Claim}
use Rattle.channel_products.specs.declared.balance_walk.Stage.{Stage}
use Rattle.channel_products.specs.declared.balance_walk.Stage.TheVariants.{Told}
use Rattle.channel_products.specs.declared.channels.Channels.{Channels}
use Rattle.channel_products.specs.declared.flushed.Flushed.{Flushed}
use Rattle.channel_products.specs.Balancing.{Balancing, balancing_pending, product_claims}
use Rattle.channel_products.specs.Fields.{StageFits, balancing_of}

-- ---- the claims at the end
length-claims : (a g : ℕ) (fs : List Flushed) (v : List ℕ) → length v ≤ length fs → length (product_claims a g fs v) ≡ length v
length-claims a g [] [] h = refl
length-claims a g [] (x ∷ v) h = absurd (omega arith)
length-claims a g (f ∷ fs) [] h = refl
length-claims a g (f ∷ fs) (x ∷ v) h = ap suc (length-claims a g fs v (omega arith))

claim_here : (a g : ℕ) (fs : List Flushed) (v : List ℕ) (i : ℕ) (f : Flushed) (x : ℕ) → slice_get fs i ≡ Some f → slice_get v i ≡ Some x → slice_get (product_claims a g fs v) i ≡ Some (claim.flush_product f.table f.number a g x)
claim_here a g [] v i f x h k = absurd cc
claim_here a g (o ∷ fs) [] i f x h k = absurd cc
claim_here a g (o ∷ fs) (y ∷ v) zero f x h k =
    let e : o ≡ f = cc in
    let d : y ≡ x = cc in
    (λ j. Some (claim.flush_product (e j).table (e j).number a g (d j)))
claim_here a g (o ∷ fs) (y ∷ v) (suc i) f x h k = claim_here a g fs v i f x h k

told_fits : (s : Stage) (ch : Channels) (a g : ℕ) (v : List ℕ) (space : ℕ) → s ≡ Told → StageFits s ch a g v space → length v ≤ length ch.flushes
told_fits s ch a g v space e h = subst (λ (x : Stage). StageFits x ch a g v space) e h

told_pending : (s : Stage) (ch : Channels) (a g : ℕ) (v : List ℕ) (m : Balancing) → balancing_of s ch a g v ≡ m → s ≡ Told → balancing_pending m ≡ product_claims a g ch.flushes v
told_pending s ch a g v m view e = ap balancing_pending (sym view) ∙ ap (λ (x : Stage). balancing_pending (balancing_of x ch a g v)) e

pub told_count : (s : Stage) (ch : Channels) (a g : ℕ) (v : List ℕ) (space : ℕ) (m : Balancing) → balancing_of s ch a g v ≡ m → s ≡ Told → StageFits s ch a g v space → length v ≡ length (balancing_pending m)
told_count s ch a g v space m view e h = sym (ap length (told_pending s ch a g v m view e) ∙ length-claims a g ch.flushes v (told_fits s ch a g v space e h))

pub told_within : (s : Stage) (ch : Channels) (a g : ℕ) (v : List ℕ) (space : ℕ) (m : Balancing) (i : ℕ) → balancing_of s ch a g v ≡ m → s ≡ Told → StageFits s ch a g v space → i < length (balancing_pending m)
    → (i < length ch.flushes) × (i < length v)
told_within s ch a g v space m i view e h l =
    let n = told_count s ch a g v space m view e h in
    let k = told_fits s ch a g v space e h in
    ((omega arith), (omega arith))

pub told_claim : (s : Stage) (ch : Channels) (a g : ℕ) (v : List ℕ) (m : Balancing) (i : ℕ) (f : Flushed) (x : ℕ) → balancing_of s ch a g v ≡ m → s ≡ Told → i < length ch.flushes → f ≡ get_or ch.flushes i f → i < length v → x ≡ get_or v i x
    → slice_get (balancing_pending m) i ≡ Some (claim.flush_product f.table f.number a g x)
told_claim s ch a g v m i f x view e below at within here =
    ap (λ cs. slice_get cs i) (told_pending s ch a g v m view e) ∙ claim_here a g ch.flushes v i f x (item_here ch.flushes i f below at) (item_here v i x within here)
