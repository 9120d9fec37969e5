-- Steps of the walks of virtual columns, and of their provers.
use Rattle.std.proofs.Common.{◌≡◌, ℕ, zero, suc, ◌+◌, ◌*◌, ◌-◌, ◌/◌, ◌%◌, ◌^◌, ◌<◌, ◌≤◌, ◌⊎◌, inl, inr, Bool, true, false, List, [], ◌∷◌, ◌++◌, length, get_or, Option, Some, None, unwrap_or, refl, sym, ◌∙◌, ap, subst, arith, append_assoc}
use Rattle.std.proofs.lemmas.Nat.{pow_pos, pow-add}
use Rattle.std.proofs.lemmas.Bool.{cases_lt}
use Rattle.std.proofs.lemmas.List.{get_or_default, length_push}
use Rattle.cube_laws.specs.Sums.{tabulate}
use Rattle.cube_laws.specs.Extension.{extension, bits_of, fold_low}
use Rattle.cube_laws.specs.SumClaim.{AllLong}
use Rattle.cube_laws.proofs.Folding.{length-fold_low}
use Rattle.cube_laws.proofs.Tabulate.{tabulate_pushed}
use Rattle.cube_laws.proofs.Weights.{length-tabulate}
use Rattle.batch_laws.proofs.Parts.{extension_every}
use Rattle.sumcheck.specs.declared.column_claim.ColumnClaim.{ColumnClaim}
use Rattle.sumcheck.specs.declared.column_tables.ColumnTable.{ColumnTable}
use Rattle.sumcheck.specs.Machine.{AwaitsDraw, AwaitsMessage}
use Rattle.sumcheck.proofs.RowSteps.{long_at}
use Rattle.table_shape.specs.declared.shape.ShapeTerm.{ShapeTerm}
use Rattle.list_laws.proofs.Powers.{power_bound}
use Rattle.eval_reduce.specs.declared.packing.Packing.{Packing}
use Rattle.eval_reduce.specs.declared.projection.Projection.{Projection}
use Rattle.eval_reduce.specs.Virtual.{IsThere, table_of}
use Rattle.eval_reduce.specs.Linear.{Combination, linear_entries, linear_of, term_claims}
use Rattle.eval_reduce.specs.Pack.{PackStage, pack_entries, pack_of}
use Rattle.eval_reduce.specs.Project.{ProjectTakes, project_at}
use Rattle.eval_reduce.specs.Provers.{TermsAreThere}

-- ---- bits of a number, one by one
pub next_bit : (log k rest : ℕ) → k < log → bits_of (log - k) rest ≡ rest % 2 ∷ bits_of (log - (k + 1)) (rest / 2)
next_bit log k rest l = let e : log - k ≡ suc (log - (k + 1)) = omega arith in ap (λ n. bits_of n rest) e

pub bits_more : (log k rest bit : ℕ) (old new whole : List ℕ) → k < log → bit ≡ rest % 2 → new ≡ old ++ bit ∷ [] → old ++ bits_of (log - k) rest ≡ whole → new ++ bits_of (log - (k + 1)) (rest / 2) ≡ whole
bits_more log k rest bit old new whole l b n h =
    ap (λ v. v ++ bits_of (log - (k + 1)) (rest / 2)) n ∙ append_assoc old (bit ∷ []) (bits_of (log - (k + 1)) (rest / 2))
    ∙ ap (λ x. old ++ x ∷ bits_of (log - (k + 1)) (rest / 2)) b ∙ ap (λ v. old ++ v) (sym (next_bit log k rest l)) ∙ h

-- ---- each value of a part
pub record Parted (values : List ℕ) (size index p : ℕ) (part : List ℕ) : Type 0 where
  pub at : p ≡ length part * size + index
  pub within : length part * size ≤ length values
  pub so_far : part ≡ tabulate (length part) (λ x. get_or values (x * size + index) 0)

pub part_start : (values : List ℕ) (size index : ℕ) → Parted values size index index []
part_start values size index = record { at = grind arith; within = grind arith; so_far = refl }

times_le : (a b s : ℕ) → a ≤ b → a * s ≤ b * s
times_le a b s h = grind arith

one_part : (k s : ℕ) → (k + 1) * s ≡ k * s + s
one_part k s = grind arith

count_below : (k n s i : ℕ) → k * s + i < n * s → k < n
count_below k n s i h = go (cases_lt k n)
  where
    go : (k < n) ⊎ (n ≤ k) → k < n
    go (inl l) = l
    go (inr l) = let t = times_le n k s l in absurd (omega arith)

inside : (k n s i whole : ℕ) → whole ≡ n * s → k * s + i < whole → (k + 1) * s ≤ whole
inside k n s i whole e h = let l = count_below k n s i (subst (λ w. k * s + i < w) e h) in let t = times_le (k + 1) n s (omega arith) in omega arith

pub part_more : (values : List ℕ) (size index p v : ℕ) (old new : List ℕ) → index < size → (n : ℕ) → length values ≡ n * size → p < length values → v ≡ get_or values p v → new ≡ old ++ v ∷ [] → Parted values size index p old → Parted values size index (p + size) new
part_more values size index p v old new i n whole l e h s =
    let m : length new ≡ length old + 1 = ap length h ∙ length_push old v in
    let here : v ≡ get_or values (length old * size + index) 0 = e ∙ get_or_default values p v 0 l ∙ ap (λ q. get_or values q 0) s.at in
    let a = s.at in
    let more : length new * size ≡ length old * size + size = ap (λ k. k * size) m ∙ one_part (length old) size in
    let fits = inside (length old) n size index (length values) whole (omega arith) in
    let next = one_part (length old) size in
    record {
      at = omega arith;
      within = omega arith;
      so_far = tabulate_pushed (length old) v (λ x. get_or values (x * size + index) 0) old new s.so_far h here ∙ ap (λ k. tabulate k (λ x. get_or values (x * size + index) 0)) (sym m);
    }

pub part_end : (values : List ℕ) (size index p : ℕ) (part : List ℕ) → index < size → length values ≤ p → Parted values size index p part → (n : ℕ) → length values ≡ n * size → part ≡ tabulate n (λ x. get_or values (x * size + index) 0)
part_end values size index p part i l s n whole = s.so_far ∙ ap (λ k. tabulate k (λ x. get_or values (x * size + index) 0)) (count (cases_lt (length part) n) (cases_lt n (length part)))
  where
    count : (length part < n) ⊎ (n ≤ length part) → (n < length part) ⊎ (length part ≤ n) → length part ≡ n
    count (inl a) c = let t = times_le (length part + 1) n size (omega arith) in let o = one_part (length part) size in let e = s.at in absurd (omega arith)
    count (inr a) (inl b) = let t = times_le (n + 1) (length part) size (omega arith) in let o = one_part n size in let w = s.within in absurd (omega arith)
    count (inr a) (inr b) = omega arith

-- ---- the corners
pub blocks : (column point : List ℕ) (log size : ℕ) → size ≡ 2 ^ log → length column ≡ 2 ^ (log + length point) → length column ≡ 2 ^ length point * size
blocks column point log size e h = h ∙ pow-add 2 log (length point) ∙ turned (2 ^ log) (2 ^ length point) ∙ ap (λ s. 2 ^ length point * s) (sym e)
  where
    turned : (a b : ℕ) → a * b ≡ b * a
    turned a b = grind arith

pub corner_part : (column point : List ℕ) (log size u : ℕ) (part : List ℕ) → size ≡ 2 ^ log → u < size → length column ≡ 2 ^ (log + length point)
    → ((n : ℕ) → length column ≡ n * size → part ≡ tabulate n (λ x. get_or column (x * size + u) 0)) → (length part ≡ 2 ^ length point) × (extension part point ≡ extension column (bits_of log u ++ point))
corner_part column point log size u part e l h made =
    let is : part ≡ tabulate (2 ^ length point) (λ x. get_or column (x * 2 ^ log + u) 0) = made (2 ^ length point) (blocks column point log size e h) ∙ ap (λ s. tabulate (2 ^ length point) (λ x. get_or column (x * s + u) 0)) e in
    (ap length is ∙ length-tabulate (2 ^ length point) (λ x. get_or column (x * 2 ^ log + u) 0), ap (λ t. extension t point) is ∙ extension_every log u column point (omega arith))

pub list_more : (u v : ℕ) (f : ℕ → ℕ) (start old new : List ℕ) → old ≡ start ++ tabulate u f → new ≡ old ++ v ∷ [] → v ≡ f u → new ≡ start ++ tabulate (u + 1) f
list_more u v f start old new h e is =
    e ∙ ap (λ l. l ++ v ∷ []) h ∙ append_assoc start (tabulate u f) (v ∷ []) ∙ ap (λ l. start ++ l) (tabulate_pushed u v f (tabulate u f) (tabulate u f ++ v ∷ []) refl refl is)

-- ---- lists that are there
pub term_there : (tables : List ColumnTable) (t n i : ℕ) (ts : List ShapeTerm) (x : ShapeTerm) → TermsAreThere tables t n ts → i < length ts → x ≡ get_or ts i x → IsThere tables t x.column n
term_there tables t n i [] x h l e = absurd (omega arith)
term_there tables t n zero (y ∷ ts) x h l e = subst (λ (z : ShapeTerm). IsThere tables t z.column n) (sym e) h.0
term_there tables t n (suc i) (y ∷ ts) x h l e = term_there tables t n i ts x h.1 (omega arith) e

pub long_item : (n i : ℕ) (lists : List (List ℕ)) (x : List ℕ) → AllLong n lists → i < length lists → x ≡ get_or lists i x → length x ≡ n
long_item n i lists x h l e = ap length (e ∙ get_or_default lists i x [] l) ∙ long_at n i lists h l

-- ---- the basis
pub part_shift : (level log u : ℕ) → level + log ≤ 7 → u < 2 ^ log → u * 2 ^ level < 128
part_shift level log u h lt =
    let p : 2 ^ (level + log) ≡ 2 ^ level * 2 ^ log = pow-add 2 level log in
    let b : 2 ^ (level + log) ≤ 2 ^ 7 = power_bound (level + log) 7 h in
    let g = more u (2 ^ log) (2 ^ level) lt in
    let z = pow_pos level in
    omega arith
  where
    more : (u m c : ℕ) → u < m → u * c + c ≤ c * m
    more u m c l = grind arith

-- ---- the stages of the walks
pub not_told : (n : ℕ) (told : Bool) (f : Combination) (claim : Option ColumnClaim) (cs : List ColumnClaim) → AwaitsMessage n (linear_entries (linear_of told f claim cs)) → told ≡ false
not_told n true f claim cs h = absurd h
not_told n false f claim cs h = refl

pub few_claims : (claim : ColumnClaim) (ts : List ShapeTerm) (vs : List ℕ) → length (term_claims claim ts vs) ≤ length ts
few_claims claim [] vs = omega arith
few_claims claim (t ∷ ts) [] = omega arith
few_claims claim (t ∷ ts) (v ∷ vs) = let l = few_claims claim ts vs in omega arith

pub not_closed : (claim : ColumnClaim) (p : Projection) (last : Option ColumnClaim) → ProjectTakes claim (project_at p last) → (last ≡ None) × (length claim.point ≡ p.vars)
not_closed claim p None h = (refl, h.long)
not_closed claim p (Some c) h = absurd h

pub stage_more : (f : Packing) (claim : Option ColumnClaim) (told : Bool) (draws next v w : List ℕ) (n r : ℕ) (last : Option ColumnClaim)
    → AwaitsDraw (pack_entries (pack_of f claim told draws v n last)) → PackStage f claim told draws v n last → 0 < n → next ≡ draws ++ r ∷ [] → w ≡ fold_low r v → PackStage f claim told next w (n - 1) last
stage_more f None told draws next v w n r None h s l e d = absurd h
stage_more f (Some claim) false draws next v w n r None h s l e d = absurd h
stage_more f (Some claim) true draws next v w n r None h s l e d =
    let a : length next ≡ length draws + 1 = ap length e ∙ length_push draws r in
    let m : suc (n - 1) ≡ n = omega arith in
    let p : 2 ^ suc n ≡ 2 * 2 ^ n = omega arith in
    (let b = s.0 in omega arith, ap length d ∙ length-fold_low r (2 ^ n) v (s.1 ∙ p) ∙ ap (λ k. 2 ^ k) (sym m))
stage_more f None told draws next v w n r (Some c) h s l e d = absurd h
stage_more f (Some claim) false draws next v w n r (Some c) h s l e d = absurd h
stage_more f (Some claim) true draws next v w n r (Some c) h s l e d = absurd h

pub is_listed : (f : Packing) (claim : Option ColumnClaim) (told : Bool) (draws v : List ℕ) (n : ℕ) (last : Option ColumnClaim) → AwaitsDraw (pack_entries (pack_of f claim told draws v n last)) → told ≡ true
is_listed f None told draws v n None h = absurd h
is_listed f (Some claim) false draws v n None h = absurd h
is_listed f (Some claim) true draws v n None h = refl
is_listed f None told draws v n (Some c) h = absurd h
is_listed f (Some claim) false draws v n (Some c) h = absurd h
is_listed f (Some claim) true draws v n (Some c) h = absurd h

-- ---- lists that are there are as long as they should be
pub there_long : (tables : List ColumnTable) (t c n : ℕ) → IsThere tables t c n → length (table_of tables t c) ≡ n
there_long tables t c n h = ap (λ (o : Option (List ℕ)). length (unwrap_or o [])) h.1 ∙ h.2
