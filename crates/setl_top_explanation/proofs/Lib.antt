pub mod OneExplanation
