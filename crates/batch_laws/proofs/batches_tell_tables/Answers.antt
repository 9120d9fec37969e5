use Rattle.batch_laws.proofs.Batching.{batch_form_value, batch_form_degree, batch_form_values, get_or-batched, extension-batched, batch_zero, pair_sum_is, batch_sum, batch_final, merge_sum, merge_final}
use Rattle.batch_laws.proofs.batches_tell_tables.Goals as goal

pub returns : goal.returns
returns c = record {
  tables = record { at = get_or-batched; extended = extension-batched; zero = batch_zero; pair = pair_sum_is; sum = batch_sum; last = batch_final; merge = merge_sum; final = merge_final };
  forms = record { value_is = batch_form_value; degree_is = batch_form_degree; values_are = batch_form_values };
}
