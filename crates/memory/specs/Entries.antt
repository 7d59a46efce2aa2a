-- Entries of working memory, by groups.
-- No contract says which entry is looked at or written, only what holds of some entry or of each.
use Rattle.std.specs.Prelude.{◌≡◌, ◌⊎◌, List, ℕ, ◌-◌, ◌*◌, ◌/◌, ◌%◌, ◌<◌, length, get_or, take, drop}
pub use Rattle.entries.specs.Entry.{ways, set_bytes, figure_bytes, group_bytes, Entry, last_at, end_at, EntryAhead}
unfoldable pub use Rattle.entries.specs.Entry.{entry_in}

unfoldable pub group_at : List ℕ → ℕ → List ℕ
group_at m g = take group_bytes (drop (g * group_bytes) m)

-- how many entries a memory has, and the k-th of them
abbrev pub entries : List ℕ → ℕ
entries m = length m / group_bytes * ways

unfoldable pub entry_at : List ℕ → ℕ → Entry
entry_at m k = entry_in (group_at m (k / ways)) (k % ways)

-- these are the figures
pub record FiguresOf (f : List ℕ) (jobs : ℕ) (ends : List ℕ) (start : ℕ) : Type 0 where
  pub last : last_at f ≡ start
  pub end : (i : ℕ) → i < jobs → end_at f i ≡ get_or ends i 0

-- the entry has this set and these figures
pub record EntryOf (e : Entry) (jobs : ℕ) (ends : List ℕ) (unplaced start : ℕ) : Type 0 where
  pub set : e.set ≡ unplaced
  pub figures : FiguresOf e.figures jobs ends start

-- the group of a set, in a memory of len bytes
unfoldable pub group_of : ℕ → ℕ → ℕ
group_of len unplaced = unplaced % (len / group_bytes)

-- some entry is ahead: where its jobs end later than these, they have rested by minute l
pub record Hit (m : List ℕ) (jobs : ℕ) (ends : List ℕ) (unplaced l rest : ℕ) : Type 0 where
  pub at : ℕ
  pub inside : at < entries m
  pub ahead : EntryAhead (entry_at m at) jobs ends unplaced l (l - rest)

-- each entry of a group is as it was, or has this set and these figures
abbrev pub Stored : List ℕ → List ℕ → ℕ → List ℕ → ℕ → ℕ → Type 0
Stored g g' jobs ends unplaced last =
    (way : ℕ) → way < ways → (entry_in g' way ≡ entry_in g way) ⊎ EntryOf (entry_in g' way) jobs ends unplaced last

-- each entry of a memory is as it was, or has this set and these figures
pub record Adds (m m' : List ℕ) (jobs : ℕ) (ends : List ℕ) (unplaced last : ℕ) : Type 0 where
  pub size : length m' ≡ length m
  pub each : (k : ℕ) → k < entries m → (entry_at m' k ≡ entry_at m k) ⊎ EntryOf (entry_at m' k) jobs ends unplaced last
