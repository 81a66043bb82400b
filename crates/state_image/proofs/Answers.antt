-- The answers that have a code.
use Rattle.std.proofs.Common.{◌≡◌, ℕ, ◌==◌, ◌<◌, Bool, true, false, List, [], ◌∷◌, Option, Some, None, if◌then◌else◌, refl, IfSome, arith}
use Rattle.tree_model.specs.declared.errno.Errno.{Errno}
use Rattle.tree_model.specs.declared.errno.Errno.TheVariants.{EPERM, ENOENT, EEXIST, ENOTDIR, EISDIR, EINVAL, EFBIG, ENOSPC, EMLINK, ENOTEMPTY, ELOOP, ENODATA}
use Rattle.tree_model.specs.Errnos.{errno_code}
use Rattle.tree_model.specs.declared.reply.Reply.{Reply}
use Rattle.tree_model.specs.declared.reply.Reply.TheVariants as replies
use Rattle.reply_cache.specs.Seats.{is_answer, answer_of, refusal_of}
use Rattle.update_record.specs.Spelling as spelled
use Rattle.update_record.specs.Values.{answers, first_with, answer_at}

AllAnswer : List Reply → Type 0
AllAnswer [] = Unit {0}
AllAnswer (r ∷ rs) = (is_answer r ≡ true) × AllAnswer rs

picked : (b : Bool) (r : Reply) (o : Option Reply) → is_answer r ≡ true → IfSome o (λ r. is_answer r ≡ true) → IfSome (if b then Some r else o) (λ r. is_answer r ≡ true)
picked true r o a h = a
picked false r o a h = h

first_answers : (n : ℕ) (rs : List Reply) → AllAnswer rs → IfSome (first_with n rs) (λ r. is_answer r ≡ true)
unfolding AllAnswer
first_answers n [] a = tt
first_answers n (r ∷ rs) a = picked (spelled.reply_code r == n) r (first_with n rs) a.0 (first_answers n rs a.1)

pub known_answers : (n : ℕ) → IfSome (answer_at n) (λ r. is_answer r ≡ true)
unfolding answer_at AllAnswer
known_answers n = first_answers n answers (refl, (refl, (refl, (refl, (refl, (refl, (refl, (refl, (refl, (refl, (refl, (refl, (refl, tt)))))))))))))

-- what a seat keeps of its own answer
pub refused_again : (o : Option Errno) → refusal_of (answer_of o) ≡ o
refused_again None = refl
refused_again (Some e) = refl

errno_small : (e : Errno) → errno_code e < 256
errno_small EPERM = omega arith
errno_small ENOENT = omega arith
errno_small EEXIST = omega arith
errno_small ENOTDIR = omega arith
errno_small EISDIR = omega arith
errno_small EINVAL = omega arith
errno_small EFBIG = omega arith
errno_small ENOSPC = omega arith
errno_small EMLINK = omega arith
errno_small ENOTEMPTY = omega arith
errno_small ELOOP = omega arith
errno_small ENODATA = omega arith

pub code_small : (o : Option Errno) → spelled.reply_code (answer_of o) < 256
code_small None = omega arith
code_small (Some e) = errno_small e

errno_again : (e : Errno) → answer_at (errno_code e) ≡ Some (replies.Err e)
unfolding answer_at
errno_again EPERM = refl
errno_again ENOENT = refl
errno_again EEXIST = refl
errno_again ENOTDIR = refl
errno_again EISDIR = refl
errno_again EINVAL = refl
errno_again EFBIG = refl
errno_again ENOSPC = refl
errno_again EMLINK = refl
errno_again ENOTEMPTY = refl
errno_again ELOOP = refl
errno_again ENODATA = refl

pub answer_again : (o : Option Errno) → answer_at (spelled.reply_code (answer_of o)) ≡ Some (answer_of o)
unfolding answer_at
answer_again None = refl
answer_again (Some e) = errno_again e
