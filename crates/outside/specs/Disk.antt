-- What contracts see of a disk, and what its calls do.
use Rattle.std.specs.Prelude.{◌≡◌, ◌+◌, ◌++◌, ℕ, List, Bool, IsTrue, Option, Some, None, length, take, drop, map, slice_index_or, Result, OnOk, OnErr, false}

-- the bytes of a disk
abbrev pub disk_len : ℕ
disk_len = 67108864

-- the n items at a place
abbrev pub part : {A : Type 0} → ℕ → ℕ → List A → List A
part at n xs = take n (drop at xs)

-- a list with other items at a place
abbrev pub put : {A : Type 0} → List A → ℕ → List A → List A
put xs at ys = take at xs ++ ys ++ drop (at + length ys) xs

-- What a disk shows. `settled` has at each place the byte that a stop leaves, and None in a dirty range.
pub record Shown : Type 0 where
  pub tells : Bool
  pub honest : Bool
  pub content : List ℕ
  pub settled : List (Option ℕ)
  pub failed : Bool
  pub faults : ℕ
  pub name : ℕ

-- settled bytes outside the dirty ranges, and any bytes inside
pub record IsImage (settled : List (Option ℕ)) (image : List ℕ) : Type 0 where
  pub size : length image ≡ length settled
  pub same : (k b : ℕ) → slice_index_or settled k None ≡ Some b → slice_index_or image k 0 ≡ b

-- everything is settled
abbrev pub settles : List ℕ → List (Option ℕ)
settles bytes = map (λ b. Some b) bytes

-- new is old but for n items at a place
pub record ChangesOnly {A : Type 0} (at n : ℕ) (old new : List A) : Type 0 where
  pub size : length new ≡ length old
  pub before : take at new ≡ take at old
  pub after : drop (at + n) new ≡ drop (at + n) old

-- what holds of each disk at any time
pub record IsWhole (disk : Shown) : Type 0 where
  pub tells : IsTrue disk.honest → IsTrue disk.tells
  pub size : IsTrue disk.honest → length disk.content ≡ disk_len
  pub image : IsTrue disk.honest → IsImage disk.settled disk.content

-- a content of which all is settled
pub record FitsWhole (content : List ℕ) : Type 0 where
  pub size : length content ≡ disk_len
  pub image : IsImage (settles content) content

-- what no call changes
pub record Stays (old new : Shown) : Type 0 where
  pub tells : new.tells ≡ old.tells
  pub honest : new.honest ≡ old.honest
  pub name : new.name ≡ old.name

-- a write
pub record Writes {T E : Type 0} (at : ℕ) (bytes : List ℕ) (result : Result T E) (old new : Shown) : Type 0 where
  pub settled : ChangesOnly at (length bytes) old.settled new.settled
  pub content : ChangesOnly at (length bytes) old.content new.content
  pub written : OnOk result (new.content ≡ put old.content at bytes)

-- a sync
pub record Syncs {T E : Type 0} (result : Result T E) (old new : Shown) : Type 0 where
  pub ok : OnOk result (new.settled ≡ settles new.content)
  pub content : new.content ≡ old.content
  pub err : OnErr result (new.settled ≡ old.settled)

-- a stop and a start: some image, and all of it settled
pub record Cycles {T E : Type 0} (result : Result T E) (old new : Shown) : Type 0 where
  pub image : OnOk result (IsImage old.settled new.content)
  pub settled : OnOk result (new.settled ≡ settles new.content)
  pub err_content : OnErr result (new.content ≡ old.content)
  pub err_settled : OnErr result (new.settled ≡ old.settled)

-- a disk as it is made: zeros, all of them settled
pub record IsNew (disk : Shown) : Type 0 where
  pub zero : (k : ℕ) → slice_index_or disk.content k 0 ≡ 0
  pub settled : disk.settled ≡ settles disk.content
  pub works : disk.failed ≡ false
  pub faults : disk.faults ≡ 0

-- how many writes and syncs still pass, where it is armed, and the dirty bits that a power cycle keeps
pub record Fuse : Type 0 where
  pub left : Option ℕ
  pub choice : ℕ
