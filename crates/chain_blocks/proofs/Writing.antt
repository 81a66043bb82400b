-- A chain that is taken to be written, and given back where it wasn't.
use Rattle.std.proofs.Common.{◌≡◌, ◌≤◌, ℕ, zero, suc, List, [], ◌∷◌, ◌++◌, length, take, drop, sym, ◌∙◌, ap, subst, arith, length-take, length-drop, length-append}
use Rattle.std.proofs.lemmas.List.{take-append-drop}
use Rattle.std.proofs.lemmas.Bool.{true≢false}
use Rattle.std.specs.Prelude.{Result, Ok, Err, is_err, false}
use Rattle.outside.specs.Disk.{Shown}
use Rattle.chain_blocks.specs.Chains.{Linked, Holds, IsTrail, joined}
use Rattle.chain_blocks.specs.Stored.{Took, Wrote, filled}

-- the chain of so many free blocks
pub record TookChain (count : ℕ) (free : List ℕ) (chains : List (List ℕ)) (head : ℕ) (old new : Linked) : Type 0 where
  pub behind : List ℕ
  pub is : take count free ≡ head ∷ behind
  pub holds : Holds new (drop count free) ((head ∷ behind) ∷ chains)
  pub trail : IsTrail new.links head (take count free)
  pub size : length new.links ≡ length old.links
  pub len : length (take count free) ≡ count

pub took_chain : (count : ℕ) (free : List ℕ) (chains : List (List ℕ)) (head : ℕ) (old new : Linked) → 1 ≤ count → count ≤ length free → Holds old free chains → Took count free chains head new → TookChain count free chains head old new
took_chain zero free chains head old new some enough holds took = absurd (omega arith)
took_chain (suc n) [] chains head old new some enough holds took = absurd (omega arith)
took_chain (suc n) (b ∷ free) chains head old new some enough holds took =
    let is : take (suc n) (b ∷ free) ≡ head ∷ take n free = ap (λ (j : ℕ). j ∷ take n free) (sym took.first) in
    let h : Holds new (drop n free) ((head ∷ take n free) ∷ chains) = subst (λ (l : List ℕ). Holds new (drop n free) (l ∷ chains)) is took.holds in
    let trail : IsTrail new.links head (head ∷ take n free) = h.chains_stand.0 in record {
      behind = take n free;
      is = is;
      holds = h;
      trail = subst (IsTrail new.links head) (sym is) trail;
      size = omega (arith, h.size, holds.size, length-append (head ∷ take n free) (joined chains), length-take n free, length-drop n free);
      len = omega (arith, length-take n free);
    }

pub given_back : (count : ℕ) (free behind : List ℕ) (chains : List (List ℕ)) (head : ℕ) (new : Linked) → take count free ≡ head ∷ behind → Holds new ((head ∷ behind) ++ drop count free) chains → Holds new free chains
given_back count free behind chains head new is holds = subst (λ (l : List ℕ). Holds new l chains) (ap (λ (l : List ℕ). l ++ drop count free) (sym is) ∙ take-append-drop count free) holds

module _ {T E U F : Type 0} where
  pub wrote_torn : (at n m : ℕ) (bytes chain : List ℕ) (r : Result T E) (f : F) (old new : Shown) → Wrote at n bytes chain r old new → Wrote {T = U} {E = F} at m bytes chain (Err f) old new
  wrote_torn at n m bytes chain r f old new w = record { settled = w.settled; content = w.content; written = tt }

  pub wrote_ok : (at n m : ℕ) (bytes chain : List ℕ) (r : Result T E) (u : U) (old new : Shown) → is_err r ≡ false → n ≡ m → Wrote at n bytes chain r old new → Wrote {T = U} {E = F} at m bytes chain (Ok u) old new
  wrote_ok at n m bytes chain (Ok t) u old new is same w = record { settled = w.settled; content = w.content; written = w.written ∙ ap (λ (k : ℕ). filled k bytes) same }
  wrote_ok at n m bytes chain (Err e) u old new is same w = absurd (true≢false is)
