-- Rows and trailers: their lengths, and parts written one behind another.
use mathlib.Core.Path.{◌≡◌, ap₂, ◌∙◌}
use mathlib.Core.List.{◌++◌}
use Prim.Native.Nat.{ℕ, ◌+◌}
use lib.ListN.{length, length-append}
use Rattle.words.specs.Words.{bytes_of}
use Rattle.words.proofs.Bytes.{bytes-length}
use Rattle.card.specs.Card.{row_size, trailer_size, order_at, row_bytes, trailer_bytes}

three_lengths : (i j k x y z : ℕ) → length (bytes_of i x ++ (bytes_of j y ++ bytes_of k z)) ≡ i + (j + k)
three_lengths i j k x y z =
    length-append (bytes_of i x) _ ∙ ap₂ ◌+◌ (bytes-length i x)
    (length-append (bytes_of j y) _ ∙ ap₂ ◌+◌ (bytes-length j y) (bytes-length k z))

pub row-length : (start end modules : ℕ) → length (row_bytes start end modules) ≡ row_size
unfolding row_bytes
row-length start end modules = three_lengths 2 2 8 start end modules

pub trailer-length : (n end : ℕ) → length (trailer_bytes n end) ≡ trailer_size
unfolding trailer_bytes
trailer-length n end = three_lengths 4 2 2 (order_at n) end n
