mod Grown
pub mod Moments
pub mod NotesFit
mod PollEnds
mod PutAfter
mod PutAnswers
mod PutEnds
mod WorkDrawn
mod WorkReplies
pub mod WorkSteps
mod WorkFaults
mod WorkGoes
mod WorkKinds
mod WorkGone
pub mod WorkFits
mod WorkOutcomes
mod WorkMachine
mod RefusedReads
mod PutFits
mod PutNoted
mod ResolveAnswers
mod ResolveEnds
pub mod StepMoments
mod TaskPuts
