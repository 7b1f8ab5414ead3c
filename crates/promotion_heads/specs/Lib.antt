-- The heads of R, its vertices of priority p, decide what a round does: whether R is open, and which entries are missing. And R is
-- attracted by the newcomers of the region alone, where nothing more may be drawn into the others (Joined).
pub mod Heads
pub mod Joined
