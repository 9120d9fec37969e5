use Rattle.std.proofs.Common.{◌≡◌, ◌^◌, length, sym, ap, subst, arith}
use Rattle.std.proofs.lemmas.List.{length-map}
use Rattle.cube_laws.specs.SumClaim.{AllLong}
use Rattle.channel_products.specs.declared.leaf_term.LeafTerm.{LeafTerm}
use Rattle.channel_products.specs.Given.{table_of}
use Rattle.channel_products.proofs.SumSteps.{leaf_goes, leaf_long}
use Rattle.channel_products.proofs.sum_tables.sum_of_leaves.Goals as goal

pub begin-requires : goal.begin-requires
begin-requires c =
    let n = c.args.vars in
    let z = c.args.point.now in
    let f = c.args.flush.now in
    let t = c.args.tables.now in
    let lists = c.in_ok-lists.ensures in
    let count = ap length lists in
    let columns = length-map f.shape.columns (table_of t f.table) in
    let width = c.len-width.ensures in
    record {
      some = omega arith;
      long = (n, (let k = c.requires.few in omega arith), subst (AllLong (2 ^ n)) (sym lists) (leaf_long t f n z c.requires.vars c.requires.point c.requires.there));
      low = omega arith;
      suits = omega arith;
    }

pub returns : goal.returns
returns c =
    let n = c.args.vars in
    let z = c.args.point.now in
    let f = c.args.flush.now in
    let t = c.args.tables.now in
    let lists = c.in_ok-lists.ensures in
    let term : LeafTerm = record { alpha = c.args.alpha; gamma = c.args.gamma; width = c.len-width.result } in
    let same : term ≡ record { alpha = c.args.alpha; gamma = c.args.gamma; width = length f.shape.columns } = λ i. record { alpha = c.args.alpha; gamma = c.args.gamma; width = c.len-width.ensures i } in
    leaf_goes c.in_ok-begin.field-0 term t f c.args.alpha c.args.gamma n z c.in_ok-lists.lists same c.requires.vars c.requires.point c.requires.there lists
    (c.in_ok-begin.ensures n (subst (AllLong (2 ^ n)) (sym lists) (leaf_long t f n z c.requires.vars c.requires.point c.requires.there)))
