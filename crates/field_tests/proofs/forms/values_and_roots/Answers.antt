use Rattle.std.proofs.Common.{[], refl}
use Rattle.tower_laws.proofs.Field.{identity, field_terms}
use Rattle.field_tests.proofs.forms.values_and_roots.Goals as goal

pub roots_bound-requires-clause-are_roots : goal.roots_bound-requires-clause-are_roots
roots_bound-requires-clause-are_roots g c = (identity [] (search field_terms depth 60 fits 20000) refl, (identity [] (search field_terms depth 60 fits 20000) refl, tt))
