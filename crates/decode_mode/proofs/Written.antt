-- A text that is known answers bytes.
use Rattle.std.proofs.Common.{◌≡◌, Bool, true, false, List, ℕ, Result, Ok, Err, IfOk, sym, subst}
use Rattle.std.specs.declared.alloc.AllocError.{AllocError}
use Rattle.decode_mode.specs.declared.answer.Answer.{Answer}
use Rattle.decode_mode.specs.Answering.{Says}

pub says_shown : (shows refuses : List ℕ → List ℕ → Type 0) (bytes text : List ℕ) (r : Result Answer AllocError) → shows bytes text
    → IfOk r (λ a. a.text ≡ text) → IfOk r (λ a. a.shown ≡ true) → IfOk r (λ a. Says shows refuses a.shown bytes a.text)
says_shown shows refuses bytes text (Ok a) h t s = subst (λ (b : Bool). Says shows refuses b bytes a.text) (sym s) (subst (shows bytes) (sym t) h)
says_shown shows refuses bytes text (Err e) h t s = tt

pub says_refused : (shows refuses : List ℕ → List ℕ → Type 0) (bytes : List ℕ) (r : Result Answer AllocError)
    → IfOk r (λ a. refuses bytes a.text) → IfOk r (λ a. a.shown ≡ false) → IfOk r (λ a. Says shows refuses a.shown bytes a.text)
says_refused shows refuses bytes (Ok a) h s = subst (λ (b : Bool). Says shows refuses b bytes a.text) (sym s) h
says_refused shows refuses bytes (Err e) h s = tt

pub says_told : (refuses : List ℕ → List ℕ → Type 0) (bytes text : List ℕ) (r : Result Answer AllocError) → refuses bytes text
    → IfOk r (λ a. a.text ≡ text) → IfOk r (λ a. refuses bytes a.text)
says_told refuses bytes text (Ok a) h t = subst (refuses bytes) (sym t) h
says_told refuses bytes text (Err e) h t = tt
