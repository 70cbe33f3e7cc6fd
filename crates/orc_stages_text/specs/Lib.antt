pub mod StagesText
