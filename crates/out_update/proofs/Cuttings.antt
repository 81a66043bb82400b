-- A request in pieces.
use Rattle.std.proofs.Common.{◌≡◌, ℕ, ◌+◌, ◌≤◌, ◌<◌, suc, List, ◌++◌, length, take, drop, get_or, sym, ap, subst, ◌∙◌, append_assoc, drop-cons}
use Rattle.std.specs.List.{flat_map}
use Rattle.std.proofs.lemmas.List.{take-append-drop, take-append-le}
use Rattle.std.proofs.Math.Seq.{take-append-add}
use Rattle.std.proofs.lemmas.List.Concat.{flat_map-cons, flat_map-append}
use Rattle.out_update.specs.declared.update.UpdateRequest.{UpdateRequest}
use Rattle.out_update.specs.declared.fault.UpdateFault.{UpdateFault}
use Rattle.out_update.specs.declared.fault.UpdateFault.TheVariants as fault
use Rattle.byte_grammar.specs.declared.verdict.Verdict.{Verdict}
use Rattle.byte_grammar.specs.declared.verdict.Verdict.TheVariants.{Done}
use Rattle.byte_grammar.specs.Grammar.{IsSettled}
use Rattle.out_update.specs.Reading.{request}
use Rattle.out_update.specs.Spelling.{spells}
use Rattle.out_update.specs.Decoding.{judge_request, IsFault}
use Rattle.byte_grammar.proofs.Judging.{settled_more}

abbrev same : List ℕ → List ℕ
same p = p

pub whole_pieces : (pieces : List (List ℕ)) (i : ℕ) (d : List ℕ) → i < length pieces → flat_map same pieces ≡ flat_map same (take i pieces) ++ (get_or pieces i d ++ flat_map same (drop (suc i) pieces))
whole_pieces pieces i d lt =
    ap (flat_map same) (sym (take-append-drop i pieces)) ∙ flat_map-append same (take i pieces) (drop i pieces)
    ∙ ap (λ (t : List ℕ). flat_map same (take i pieces) ++ t) (ap (flat_map same) (drop-cons pieces i d lt) ∙ flat_map-cons same (get_or pieces i d) (drop (suc i) pieces))

settled : (v : Verdict) (all d p rest : List ℕ) → all ≡ d ++ (p ++ rest) → judge_request (d ++ p) ≡ v → IsSettled v → judge_request all ≡ v
settled v all d p rest is e s = ap judge_request (is ∙ sym (append_assoc d p rest)) ∙ settled_more 24576 request 0 (d ++ p) rest (subst IsSettled (sym e) s) ∙ e

pub pieces_done : (value : UpdateRequest) (used : ℕ) (all d p rest : List ℕ) → all ≡ d ++ (p ++ rest) → (judge_request (d ++ p) ≡ Done (length d + used)) × (used ≤ length p) × spells value (d ++ take used p)
    → (k : ℕ) × (judge_request all ≡ Done k) × spells value (take k all)
pieces_done value used all d p rest is h =
    let front : take (length d + used) all ≡ d ++ take used p = ap (take (length d + used)) is ∙ take-append-add d (p ++ rest) used ∙ ap (λ (t : List ℕ). d ++ t) (take-append-le used p rest h.1) in
    (length d + used, settled (Done (length d + used)) all d p rest is h.0 tt, subst (spells value) (sym front) h.2)

pub pieces_err : (e : UpdateFault) (all d p rest : List ℕ) → all ≡ d ++ (p ++ rest) → IsFault e (judge_request (d ++ p)) → IsFault e (judge_request all)
pieces_err fault.Memory all d p rest is h = tt
pieces_err (fault.BadMagic q) all d p rest is h = settled _ all d p rest is h tt
pieces_err (fault.BadType q) all d p rest is h = settled _ all d p rest is h tt
pieces_err (fault.BadCount q) all d p rest is h = settled _ all d p rest is h tt
pieces_err (fault.BadLength q) all d p rest is h = settled _ all d p rest is h tt
pieces_err (fault.BadPadding q) all d p rest is h = settled _ all d p rest is h tt
pieces_err (fault.BadValue q) all d p rest is h = settled _ all d p rest is h tt
pieces_err (fault.TooLong q) all d p rest is h = settled _ all d p rest is h tt
