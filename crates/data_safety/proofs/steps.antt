pub mod StepFinish
pub mod StepFrames
pub mod StepMoves
pub mod StepPasses
pub mod StepReach
pub mod StepRuns
pub mod StepTry
