use Rattle.eval_reduce.proofs.FilledForms as forms
use Rattle.eval_reduce.proofs.laws.fillings_have_forms.Goals as goal

pub returns : goal.returns
returns c = forms.fillings_have_forms
