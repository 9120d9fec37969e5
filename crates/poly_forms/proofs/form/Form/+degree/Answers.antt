use Rattle.poly_forms.specs.Form.{form_of}
use Rattle.cube_laws.specs.Form.{degree}
use Rattle.poly_forms.proofs.FormSteps.{greatest_done, total_done}
use Rattle.poly_forms.proofs.form.Form.+degree.Goals as goal

pub returns-after-loop-part : goal.returns-after-loop-part
returns-after-loop-part t c = greatest_done form_of c.as_slice-part-items.result.now c.loop-part.part-index c.loop-part.greatest (degree (form_of c.args.self.now)) _ c.loop-part-test.false c.loop-part.invariant.0 c.loop-part.invariant.1

pub returns-after-loop-part-2 : goal.returns-after-loop-part-2
returns-after-loop-part-2 t c = total_done form_of c.as_slice-part-items-in-Product.result.now c.loop-part-2.part-index c.loop-part-2.total (degree (form_of c.args.self.now)) _ c.loop-part-2-test.false c.loop-part-2.invariant.0 c.loop-part-2.invariant.1
