-- Steps of sums of whole columns.
use Rattle.std.proofs.Common.{◌≡◌, ℕ, ◌+◌, ◌<◌, ◌≤◌, ◌⊎◌, inl, inr, List, length, map, drop, get_or, bit_xor, sym, ◌∙◌, ap, subst, arith}
use Rattle.std.specs.Int.Bits.{xor_zero_l}
use Rattle.std.proofs.lemmas.Bool.{cases_lt}
use Rattle.std.proofs.lemmas.List.{get_or_default}
use Rattle.tower_laws.specs.Tower.{mul}
use Rattle.tower_laws.specs.Lists.{sum_all}
use Rattle.tower_laws.proofs.Levels.{field_one}
use Rattle.cube_laws.specs.Sums.{tabulate}
use Rattle.cube_laws.proofs.Tabulate.{entries, get_or-tabulate}
use Rattle.cube_laws.proofs.Weights.{length-tabulate}
use Rattle.table_shape.specs.declared.shape.ShapeTerm.{ShapeTerm}
use Rattle.column_store.specs.Column.{ColumnValues, list_of, lists}
use Rattle.column_store.specs.Summands.{IsSummand}
use Rattle.column_store.proofs.Pieces.{terms_more, terms_done, list_at}
use Rattle.column_store.proofs.Words.{stored}

-- one more term is a whole column
pub summands_more : (columns : List ColumnValues) (terms : List ShapeTerm) (level count i : ℕ) (item : ShapeTerm) (source : ColumnValues)
    → i < length terms → item ≡ get_or terms i item → item.column < length columns → source ≡ get_or columns item.column source → IsSummand level count item source
    → ((j : ℕ) (term : ShapeTerm) (column : ColumnValues) → j < i → term ≡ get_or terms j term → column ≡ get_or columns term.column column → IsSummand level count term column)
    → (j : ℕ) (term : ShapeTerm) (column : ColumnValues) → j < i + 1 → term ≡ get_or terms j term → column ≡ get_or columns term.column column → IsSummand level count term column
summands_more columns terms level count i item source below is there source_is here before j term column at term_is column_is = go (cases_lt j i)
  where
    go : (j < i) ⊎ (i ≤ j) → IsSummand level count term column
    go (inl earlier) = before j term column earlier term_is column_is
    go (inr later) =
        let e : j ≡ i = omega arith in
        let same : term ≡ item = term_is ∙ ap (λ j. get_or terms j term) e ∙ get_or_default terms i term item below ∙ sym is in
        let from : column ≡ source = column_is ∙ ap (λ (t : ShapeTerm). get_or columns t.column column) same ∙ get_or_default columns item.column column source there ∙ sym source_is in
        record {
          alone = ap (λ (t : ShapeTerm). t.coefficient) same ∙ here.alone;
          same_level = ap (λ (c : ColumnValues). c.level) from ∙ here.same_level;
          as_many = subst (λ (c : ColumnValues). count ≤ length c.values) (sym from) here.as_many;
        }

-- the value of a term at a position
abbrev pub term_value : List ColumnValues → ℕ → ShapeTerm → ℕ
term_value columns p t = mul t.coefficient (get_or (list_of (lists columns) t.column) p 0)

pub value_alone : (columns : List ColumnValues) (item : ShapeTerm) (source : ColumnValues) (p : ℕ) → item.column < length columns → source ≡ get_or columns item.column source → item.coefficient ≡ 1
    → get_or source.values p 0 ≡ term_value columns p item
value_alone columns item source p there is one =
    let x : ℕ = get_or (list_of (lists columns) item.column) p 0 in
    sym (ap (λ k. mul k x) one ∙ field_one x ∙ ap (λ xs. get_or xs p 0) (list_at columns item.column source there is))

-- a column that has the sum of the first terms, i of them
pub record SumSoFar (f : ℕ → ShapeTerm → ℕ) (terms : List ShapeTerm) (i : ℕ) (was now : ColumnValues) : Type 0 where
  pub level : now.level ≡ was.level
  pub len : length now.values ≡ length was.values
  pub sum : (p : ℕ) → p < length was.values → bit_xor (get_or now.values p 0) (sum_all (map (f p) (drop i terms))) ≡ sum_all (map (f p) terms)

pub sum_begins : (f : ℕ → ShapeTerm → ℕ) (terms : List ShapeTerm) (was now : ColumnValues) → now ≡ stored was.level (tabulate (length was.values) (λ _. 0)) → SumSoFar f terms 0 was now
sum_begins f terms was now is =
    let values : now.values ≡ tabulate (length was.values) (λ _. 0) = ap (λ (c : ColumnValues). c.values) is in
    record {
      level = ap (λ (c : ColumnValues). c.level) is;
      len = ap length values ∙ length-tabulate (length was.values) (λ _. 0);
      sum = λ p l.
          let zero : get_or now.values p 0 ≡ 0 = ap (λ xs. get_or xs p 0) values ∙ get_or-tabulate (length was.values) p (λ _. 0) l in
          ap (λ n. bit_xor n (sum_all (map (f p) terms))) zero ∙ xor_zero_l (sum_all (map (f p) terms));
    }

pub sum_goes_on : (f : ℕ → ShapeTerm → ℕ) (terms : List ShapeTerm) (i : ℕ) (item : ShapeTerm) (was now source next : ColumnValues) → i < length terms → item ≡ get_or terms i item
    → ((p : ℕ) → get_or source.values p 0 ≡ f p item) → next ≡ stored now.level (tabulate (length now.values) (λ p. bit_xor (get_or now.values p 0) (get_or source.values p 0)))
    → SumSoFar f terms i was now → SumSoFar f terms (i + 1) was next
sum_goes_on f terms i item was now source next below is value added so_far =
    let n : ℕ = length now.values in
    let g : ℕ → ℕ = λ p. bit_xor (get_or now.values p 0) (get_or source.values p 0) in
    let values : next.values ≡ tabulate n g = ap (λ (c : ColumnValues). c.values) added in
    record {
      level = ap (λ (c : ColumnValues). c.level) added ∙ so_far.level;
      len = ap length values ∙ length-tabulate n g ∙ so_far.len;
      sum = λ p l.
          let len = so_far.len in
          let here : get_or next.values p 0 ≡ g p = ap (λ xs. get_or xs p 0) values ∙ get_or-tabulate n p g (omega arith) in
          terms_more (f p) terms i item (get_or now.values p 0) (get_or source.values p 0) (get_or next.values p 0) (sum_all (map (f p) terms)) below is (value p) here (so_far.sum p l);
    }

pub sum_ends : (f : ℕ → ShapeTerm → ℕ) (terms : List ShapeTerm) (i : ℕ) (was now : ColumnValues) → length terms ≤ i → SumSoFar f terms i was now
    → now ≡ stored was.level (tabulate (length was.values) (λ p. sum_all (map (f p) terms)))
sum_ends f terms i was now past so_far =
    let n : ℕ = length was.values in
    let g : ℕ → ℕ = λ p. sum_all (map (f p) terms) in
    let values : now.values ≡ tabulate n g = entries n g now.values so_far.len (λ p l. terms_done (f p) terms i (get_or now.values p 0) (g p) past (so_far.sum p l)) in
    λ k. stored (so_far.level k) (values k)
