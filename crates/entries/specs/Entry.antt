-- Entries of a group of working memory. A group begins with their sets of unplaced jobs, and behind these stand the figures of each: the last
-- start (2 bytes) and the ends by job (2 each).
use Rattle.std.specs.Prelude.{◌≡◌, List, ℕ, ◌+◌, ◌*◌, ◌≤◌, ◌<◌, max, get_or, take, drop}
use Rattle.words.specs.Words.{u16_at, u32_at}

-- the entries of a group
abbrev pub ways : ℕ
ways = 16

-- the bytes of one entry's set, and of all sets of a group
abbrev pub set_bytes : ℕ
set_bytes = 4

abbrev pub sets_bytes : ℕ
sets_bytes = 64

-- the bytes of one entry's figures, and where the ends stand in them
abbrev pub figure_bytes : ℕ
figure_bytes = 42

abbrev pub ends_from : ℕ
ends_from = 2

-- the bytes of a group
abbrev pub group_bytes : ℕ
group_bytes = 736

pub record Entry : Type 0 where
  pub set : ℕ
  pub figures : List ℕ

-- the entry of a group
unfoldable pub entry_in : List ℕ → ℕ → Entry
entry_in group way = record {
  set = u32_at group (way * set_bytes);
  figures = take figure_bytes (drop (sets_bytes + way * figure_bytes) group);
}

-- the figures of an entry
abbrev pub last_at : List ℕ → ℕ
last_at f = u16_at f 0

abbrev pub end_at : List ℕ → ℕ → ℕ
end_at f i = u16_at f (ends_from + 2 * i)

-- the entry has this set, a last start no later than minute l, and ends no later than these or than minute `rested`
pub record EntryAhead (e : Entry) (jobs : ℕ) (ends : List ℕ) (unplaced l rested : ℕ) : Type 0 where
  pub set : e.set ≡ unplaced
  pub last : last_at e.figures ≤ l
  pub end : (i : ℕ) → i < jobs → end_at e.figures i ≤ max (get_or ends i 0) rested
