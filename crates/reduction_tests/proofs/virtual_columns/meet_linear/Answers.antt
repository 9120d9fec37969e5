use Rattle.std.proofs.Common.{◌≡◌, ◌∙◌, ◌++◌, sym}
use Rattle.eval_reduce.specs.Linear.{linear_honest, stated}
use Rattle.reduction_tests.proofs.Terms.{as_due, both_told, when_ok}
use Rattle.reduction_tests.proofs.virtual_columns.meet_linear.Goals as goal

pub message-requires : goal.message-requires
message-requires c = (c.requires.0, stated c.requires.1 c.requires.2, c.requires.4, tt)

pub message-requires-2 : goal.message-requires-2
message-requires-2 c =
    let r = c.requires in
    let s = stated r.1 r.2 in
    let honest : c.as_slice.result.now ≡ linear_honest r.0 s = c.as_slice.ensures.value ∙ (c.in_ok-message.ensures.values r.0 s r.4 tt ∙ (λ i. c.new-message.ensures.items i ++ linear_honest r.0 s)) in
    as_due r.0 r.1 r.2 c.args.step c.as_slice.result.now r.3 honest

pub agreed_claims-requires : goal.agreed_claims-requires
agreed_claims-requires c =
    let r = c.requires in
    let s = stated r.1 r.2 in
    let honest : c.as_slice.result.now ≡ linear_honest r.0 s = c.as_slice.ensures.value ∙ (c.in_ok-message.ensures.values r.0 s r.4 tt ∙ (λ i. c.new-message.ensures.items i ++ linear_honest r.0 s)) in
    let passed = when_ok c.message-2.result (sym c.is_err.ensures.value ∙ c.if-is_err.false) c.message-2.ensures.state in
    both_told r.0 r.1 r.2 c.args.step c.message-2.new.self c.message.new.self c.as_slice.result.now r.3 honest passed (c.in_ok-message.ensures.state r.0 s r.4 tt)
