-- Why the letters of a stream are never refused.
use Rattle.std.specs.Prelude.{ℕ, ◌≡◌, ◌≢◌, ◌<◌, ◌≤◌, length}
use Rattle.replication_safety.specs.StreamState.{StreamState, Entry, Stores, Passes, In, top}
use Rattle.replication_safety.specs.ReplicationInvariant.{ReplicationInvariant}
use Rattle.replication_safety.proofs.Appends.{receiver-foreign, receiver-room}

-- no letter with an entry goes to the stream's own node,
pub stores-foreign : (l : StreamState) (passed from n e k d : ℕ) (x : Entry) → ReplicationInvariant l passed → In (Stores from n e k d x) l.letters → n ≢ l.home
stores-foreign l passed from n e k d x r m = receiver-foreign l passed n k d x (r.copies from n e k d x m)

-- nor does the word that entries have passed;
pub passes-foreign : (l : StreamState) (passed n d : ℕ) → ReplicationInvariant l passed → In (Passes n d) l.letters → n ≢ l.home
passes-foreign l passed n d r m = (r.told n d m).1

-- a node that has reached the letter's done has room for its entry where that is the next one;
pub stores-room : (l : StreamState) (passed from n e k d : ℕ) (x : Entry) → ReplicationInvariant l passed → In (Stores from n e k d x) l.letters → d ≤ l.done n → k ≡ top l n → length (l.kept n) < 16
stores-room l passed from n e k d x r m = receiver-room l passed n k d x (r.copies from n e k d x m)

-- and what a letter says to have passed has passed
pub stores-known : (l : StreamState) (passed from n e k d : ℕ) (x : Entry) → ReplicationInvariant l passed → In (Stores from n e k d x) l.letters → d ≤ passed
stores-known l passed from n e k d x r m = (r.copies from n e k d x m).done_passed

-- if a letter tells how many entries have passed, then that many have
pub passes-known : (l : StreamState) (passed n d : ℕ) → ReplicationInvariant l passed → In (Passes n d) l.letters → d ≤ passed
passes-known l passed n d r m = (r.told n d m).0
