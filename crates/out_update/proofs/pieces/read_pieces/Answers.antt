use Rattle.std.proofs.Common.{◌≡◌, ◌∙◌, ◌++◌, ℕ, List, suc, drop, get_or, sym, ap, subst, arith, Ok}
use Rattle.std.specs.List.{flat_map}
use Rattle.std.proofs.lemmas.List.{take_all}
use Rattle.out_update.specs.Spelling.{spells}
use Rattle.out_update.specs.Decoding.{judge_request, Tells}
use Rattle.out_update.specs.Begins.{request_begins}
use Rattle.out_update.proofs.Cuttings.{whole_pieces, pieces_done, pieces_err}
use Rattle.out_update.proofs.pieces.read_pieces.Goals as goal

pub loop-piece-init : goal.loop-piece-init
loop-piece-init c = record { fed = c.new-decoder.ensures; unsettled = ap judge_request c.new-decoder.ensures ∙ request_begins }

pub returns-in-Ok-Done : goal.returns-in-Ok-Done
returns-in-Ok-Done c =
    let ps = c.args.pieces.now in
    let i = c.loop-piece.piece-index in
    let rest = flat_map (λ (p : List ℕ). p) (drop (suc i) ps) in
    let cut : flat_map (λ (p : List ℕ). p) ps ≡ c.loop-piece.decoder ++ (c.bytes.result.now ++ rest) =
    whole_pieces ps i c.piece-item.result c.loop-piece-test.true ∙ ap (λ (x : List ℕ). x ++ (get_or ps i c.piece-item.result ++ rest)) (sym c.loop-piece.invariant.fed) ∙ ap (λ (x : List ℕ). c.loop-piece.decoder ++ (x ++ rest)) (sym (c.bytes.ensures ∙ c.piece-item.is)) in
    let h = subst (λ f. Tells spells (judge_request (c.loop-piece.decoder ++ c.bytes.result.now)) c.loop-piece.decoder c.bytes.result.now (Ok f)) c.in-Ok-Done.field-0-is c.in-Ok-Done.ensures.exact in
    pieces_done c.in-Ok-Done.value c.in-Ok-Done.field-0-1 _ c.loop-piece.decoder c.bytes.result.now rest cut h

pub returns-in-Err : goal.returns-in-Err
returns-in-Err c =
    let ps = c.args.pieces.now in
    let i = c.loop-piece.piece-index in
    let rest = flat_map (λ (p : List ℕ). p) (drop (suc i) ps) in
    let cut : flat_map (λ (p : List ℕ). p) ps ≡ c.loop-piece.decoder ++ (c.bytes.result.now ++ rest) =
    whole_pieces ps i c.piece-item.result c.loop-piece-test.true ∙ ap (λ (x : List ℕ). x ++ (get_or ps i c.piece-item.result ++ rest)) (sym c.loop-piece.invariant.fed) ∙ ap (λ (x : List ℕ). c.loop-piece.decoder ++ (x ++ rest)) (sym (c.bytes.ensures ∙ c.piece-item.is)) in
    pieces_err c.in-Err.fault _ c.loop-piece.decoder c.bytes.result.now rest cut c.in-Err.ensures.exact

pub returns : goal.returns
returns c =
    let all = take_all c.loop-piece.piece-index c.args.pieces.now (omega arith) in
    sym (ap (λ (ps : List (List ℕ)). judge_request (flat_map (λ (p : List ℕ). p) ps)) all) ∙ ap judge_request (sym c.loop-piece.invariant.fed) ∙ c.loop-piece.invariant.unsettled
