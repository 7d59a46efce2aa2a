-- Records and trailers as bytes and back.
use mathlib.Core.Path.{◌≡◌, refl, sym, ap, ap₂, ◌∙◌}
use mathlib.Core.Bool.{false}
use mathlib.Core.List.{List, [], ◌∷◌, ◌++◌}
use Prim.Native.Nat.{ℕ, ◌+◌, ◌^◌, ◌≤◌, ◌<◌}
use native.Mathlib.Nat.{add-zero, add_assoc, lt_of_lt_of_le}
use native.Mathlib.Omega.{arith}
use lib.ListN.{length, take, drop}
use lib.Pow.{pow_mono}
use lib.Seq.{get_or-append-add}
use Rattle.counting.specs.Counting.{joined}
use Rattle.words.specs.Words.{byte_at, u16_at, u32_at, bytes_of}
use Rattle.words.proofs.Bytes.{segment}
use Rattle.words.proofs.Numbers.{number_first, number_next, number_last, number_behind, bytes_each}
use Rattle.sheet_format.specs.declared.Job.{Job}
use Rattle.sheet_format.specs.Figures.{most_jobs, record_size, trailer_size}
use Rattle.sheet_format.specs.Format.{record_at, record_bytes, trailer_bytes, cabinet}
use Rattle.sheet_format.specs.declared.Cabinet.{Cabinet}
use Rattle.sheet_format.specs.Checks.{faulty}
use Rattle.sheet_format.proofs.Bounds.{legal}

-- ---- what is written is read

-- a record that is not faulty
pub record_read : (n : ℕ) (j : Job) (rest : List ℕ) → n ≤ most_jobs → faulty n j ≡ false → record_at (record_bytes j ++ rest) 0 ≡ j
unfolding record_at record_bytes joined
record_read n j rest few sound =
    let l = legal n j sound in
    let front : List ℕ = j.label_len ∷ j.modules ∷ [] in
    let m = bytes_of 2 j.minutes in
    let e = bytes_of 4 j.earlier in
    let d = bytes_of 2 j.departure in
    let a = bytes_of 2 j.arrival in
    let s : List ℕ = front ++ (m ++ (e ++ (d ++ (a ++ rest)))) in
    let small : j.earlier < 2 ^ 32 = lt_of_lt_of_le l.earlier (pow_mono {i = n} {j = 32} (omega arith)) in
    let minutes : u16_at s 2 ≡ j.minutes = number_next 2 2 j.minutes front (e ++ (d ++ (a ++ rest))) refl (omega arith) in
    let earlier : u32_at s 4 ≡ j.earlier = number_next 4 4 j.earlier (front ++ m) (d ++ (a ++ rest)) refl small in
    let departure : u16_at s 8 ≡ j.departure = number_next 8 2 j.departure (front ++ (m ++ e)) (a ++ rest) refl (omega arith) in
    let arrival : u16_at s 10 ≡ j.arrival = number_next 10 2 j.arrival (front ++ (m ++ (e ++ d))) rest refl (omega arith) in
    let with : ℕ → ℕ → ℕ → ℕ → Job =
    λ w x y z. record { label_len = j.label_len; modules = j.modules; minutes = w; earlier = x; departure = y; arrival = z } in
    ap₂ (λ (w x : ℕ). with w x (u16_at s 8) (u16_at s 10)) minutes earlier ∙ ap₂ (with j.minutes j.earlier) departure arrival

-- a trailer of figures that fit their bytes
pub record TrailerHolds (s : List ℕ) (offset n : ℕ) (C : Cabinet) : Type 0 where
  pub offset_is : u32_at s 0 ≡ offset
  pub count_is : u16_at s 4 ≡ n
  pub modules_is : u16_at s 6 ≡ C.modules
  pub changeover_is : u16_at s 8 ≡ C.changeover

pub trailer_read : (offset n : ℕ) (C : Cabinet) → offset < 2 ^ 32 → n < 2 ^ 16 → C.modules < 2 ^ 16 → C.changeover < 2 ^ 16
    → TrailerHolds (trailer_bytes offset n C) offset n C
unfolding trailer_bytes joined
trailer_read offset n C a b c d =
    let o = bytes_of 4 offset in
    let k = bytes_of 2 n in
    let m = bytes_of 2 C.modules in
    let r = bytes_of 2 C.changeover in
    record {
      offset_is = number_first 4 offset (k ++ (m ++ r)) a;
      count_is = number_next 4 2 n o (m ++ r) refl b;
      modules_is = number_next 6 2 C.modules (o ++ k) r refl c;
      changeover_is = number_last 8 2 C.changeover (o ++ (k ++ m)) refl d;
    }

-- ---- behind other bytes

module _ (p q : List ℕ) (n : ℕ) (e : length p ≡ n) where
  byte-behind : (i : ℕ) → byte_at (p ++ q) (n + i) ≡ byte_at q i
  byte-behind i = rw (← e) (get_or-append-add p q i 0)

  pub record-behind : record_at (p ++ q) n ≡ record_at q 0
  unfolding record_at
  record-behind =
      let z : byte_at (p ++ q) n ≡ byte_at q 0 = ap (byte_at (p ++ q)) (sym (add-zero n)) ∙ byte-behind 0 in
      rw (z, byte-behind 1, number_behind p q n 2 2 e, number_behind p q n 4 4 e, number_behind p q n 8 2 e, number_behind p q n 10 2 e)

-- ---- what is read is written

module _ (s : List ℕ) (bytes : (i : ℕ) → byte_at s i < 256) where
  pub record_back : (at : ℕ) → at + record_size ≤ length s → record_bytes (record_at s at) ≡ take record_size (drop at s)
  unfolding record_bytes record_at joined
  record_back at h =
      ap₂ (λ (x y : List ℕ). byte_at s at ∷ byte_at s (at + 1) ∷ (x ++ y)) (bytes_each s bytes (at + 2) 2)
      (ap₂ ◌++◌ (bytes_each s bytes (at + 4) 4) (ap₂ ◌++◌ (bytes_each s bytes (at + 8) 2) (bytes_each s bytes (at + 10) 2)))
      ∙ rw (segment s at record_size h) (simp (add_assoc, add-zero))

  pub trailer_back : (at : ℕ) → at + trailer_size ≤ length s
      → trailer_bytes (u32_at s at) (u16_at s (at + 4)) (cabinet (u16_at s (at + 6)) (u16_at s (at + 8))) ≡ take trailer_size (drop at s)
  unfolding trailer_bytes joined
  trailer_back at h =
      ap₂ ◌++◌ (bytes_each s bytes at 4)
      (ap₂ ◌++◌ (bytes_each s bytes (at + 4) 2) (ap₂ ◌++◌ (bytes_each s bytes (at + 6) 2) (bytes_each s bytes (at + 8) 2)))
      ∙ rw (segment s at trailer_size h) (simp (add_assoc, add-zero))
