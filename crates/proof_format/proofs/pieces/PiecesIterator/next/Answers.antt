use Rattle.std.proofs.Common.{◌≡◌, ◌∙◌, ◌+◌, ◌++◌, ◌∷◌, [], ap, arith, length, subst, sym}
use Rattle.proof_plan.specs.PlanFits.{EntryIsSmall}
use Rattle.proof_plan.specs.Sizes.{query_count}
use Rattle.proof_format.specs.Openings.{entries_left}
use Rattle.proof_format.specs.Pieces.{entry_pieces, queries_pieces}
use Rattle.proof_format.proofs.NextSteps.{entry_begins, piece_first}
use Rattle.proof_format.proofs.pieces.PiecesIterator.next.Goals.{After-whole_piece, After-whole_piece-in-Message, After-whole_piece-in-Constant}
use Rattle.proof_format.proofs.pieces.PiecesIterator.next.Goals as goal

pub overflow_mul-length : goal.overflow_mul-length
overflow_mul-length c = let small = subst EntryIsSmall c.in-Message.is c.entry.ensures.small in omega arith

at_root : (c : After-whole_piece) → c.args.self.now ≡ c.whole_piece.result ∷ (c.next_piece.new.self ++ entries_left c.loop-piece.self-inside.plan.now (c.loop-piece.self-inside.next + 1))
at_root c =
    let at = c.loop-piece.self-inside in
    piece_first c.whole_piece.result (entry_pieces at.plan.now.packed_log at.next c.entry.result) c.next_piece.new.self (entries_left at.plan.now (at.next + 1)) c.args.self.now
    (entry_begins at.plan.now at.next c.len.result c.entry.result c.next_piece.result at.openings c.next_piece.new.self c.args.self.now c.next_piece.ensures c.in_default.is c.loop-piece.invariant c.if-self-len.false c.len.ensures c.entry.ensures.entry)
    (ap (entry_pieces at.plan.now.packed_log at.next) c.in-Root.is ∙ ap (λ piece. piece ∷ []) (sym c.whole_piece.ensures))

pub returns-in-Root-clause-steps : goal.returns-in-Root-clause-steps
returns-in-Root-clause-steps c = at_root c

pub returns-in-Root-clause-goes : goal.returns-in-Root-clause-goes
returns-in-Root-clause-goes c = record { on = λ _. (tt, tt, omega (arith, ap length (at_root c))); keeps = tt; rests = λ _. tt }

at_message : (c : After-whole_piece-in-Message) → c.args.self.now ≡ c.whole_piece-in-Message.result ∷ (c.next_piece.new.self ++ entries_left c.loop-piece.self-inside.plan.now (c.loop-piece.self-inside.next + 1))
at_message c =
    let at = c.loop-piece.self-inside in
    piece_first c.whole_piece-in-Message.result (entry_pieces at.plan.now.packed_log at.next c.entry.result) c.next_piece.new.self (entries_left at.plan.now (at.next + 1)) c.args.self.now
    (entry_begins at.plan.now at.next c.len.result c.entry.result c.next_piece.result at.openings c.next_piece.new.self c.args.self.now c.next_piece.ensures c.in_default.is c.loop-piece.invariant c.if-self-len.false c.len.ensures c.entry.ensures.entry)
    (ap (entry_pieces at.plan.now.packed_log at.next) c.in-Message.is ∙ ap (λ piece. piece ∷ []) (sym c.whole_piece-in-Message.ensures))

pub returns-in-Message-clause-steps : goal.returns-in-Message-clause-steps
returns-in-Message-clause-steps c = at_message c

pub returns-in-Message-clause-goes : goal.returns-in-Message-clause-goes
returns-in-Message-clause-goes c = record { on = λ _. (tt, tt, omega (arith, ap length (at_message c))); keeps = tt; rests = λ _. tt }

at_constant : (c : After-whole_piece-in-Constant) → c.args.self.now ≡ c.whole_piece-in-Constant.result ∷ (c.next_piece.new.self ++ entries_left c.loop-piece.self-inside.plan.now (c.loop-piece.self-inside.next + 1))
at_constant c =
    let at = c.loop-piece.self-inside in
    piece_first c.whole_piece-in-Constant.result (entry_pieces at.plan.now.packed_log at.next c.entry.result) c.next_piece.new.self (entries_left at.plan.now (at.next + 1)) c.args.self.now
    (entry_begins at.plan.now at.next c.len.result c.entry.result c.next_piece.result at.openings c.next_piece.new.self c.args.self.now c.next_piece.ensures c.in_default.is c.loop-piece.invariant c.if-self-len.false c.len.ensures c.entry.ensures.entry)
    (ap (entry_pieces at.plan.now.packed_log at.next) c.in-Constant.is ∙ ap (λ piece. piece ∷ []) (sym c.whole_piece-in-Constant.ensures))

pub returns-in-Constant-clause-steps : goal.returns-in-Constant-clause-steps
returns-in-Constant-clause-steps c = at_constant c

pub returns-in-Constant-clause-goes : goal.returns-in-Constant-clause-goes
returns-in-Constant-clause-goes c = record { on = λ _. (tt, tt, omega (arith, ap length (at_constant c))); keeps = tt; rests = λ _. tt }

pub loop-piece-preserved-in-Draw : goal.loop-piece-preserved-in-Draw
loop-piece-preserved-in-Draw c =
    let at = c.loop-piece.self-inside in
    let begins = entry_begins at.plan.now at.next c.len.result c.entry.result c.next_piece.result at.openings c.next_piece.new.self c.args.self.now c.next_piece.ensures c.in_default.is c.loop-piece.invariant c.if-self-len.false c.len.ensures c.entry.ensures.entry in
    ap (λ ps. ps ++ entries_left at.plan.now (at.next + 1)) begins.0 ∙ sym (begins.1 ∙ ap (λ entry. entry_pieces at.plan.now.packed_log at.next entry ++ entries_left at.plan.now (at.next + 1)) c.in-Draw.is)

pub loop-piece-preserved : goal.loop-piece-preserved
loop-piece-preserved c =
    let at = c.loop-piece.self-inside in
    let begins = entry_begins at.plan.now at.next c.len.result c.entry.result c.next_piece.result at.openings c.next_piece.new.self c.args.self.now c.next_piece.ensures c.in_default.is c.loop-piece.invariant c.if-self-len.false c.len.ensures c.entry.ensures.entry in
    ap (λ ps. ps ++ entries_left at.plan.now (at.next + 1)) (c.all-self-inside.ensures ∙ ap (λ m. queries_pieces at.next m 0 query_count) c.packed_vars.ensures.value)
    ∙ sym (begins.1 ∙ ap (λ entry. entry_pieces at.plan.now.packed_log at.next entry ++ entries_left at.plan.now (at.next + 1)) c.in-Queries.is)
